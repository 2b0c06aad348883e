-- Laws of a sum in a fixed order, as a loop uses them.
--     total_none    before the first turn
--     total_next    a turn adds the next term, also of a loop within a loop
-- Assumes nothing.
use mathlib.Core.Path.{◌≡◌, refl}
use Prim.Native.Nat.{ℕ, ◌+◌}
use native.Mathlib.Nat.{add-suc}
use native.Mathlib.Numerals.{add-one}
use lib.Ieee.{Float, binary32, add}
use Rattle.floats.specs.Numbers.{zero_f}
use Rattle.math.specs.Sum.{total}

pub total_none : (f : ℕ → Float) → zero_f ≡ total f 0
unfolding total
total_none f = refl

pub total_next : (f : ℕ → Float) (n m : ℕ) → total f (n + (m + 1)) ≡ add binary32 (total f (n + m)) (f (n + m))
unfolding total
total_next f n m = rw (add-one m, add-suc n m)
