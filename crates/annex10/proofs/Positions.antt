-- Laws of the positions that clear a remainder.
--     proper_inside    proper positions lie in the message
-- Assumes nothing.
use mathlib.Core.Path.{◌≡◌, refl}
use mathlib.Core.Bool.{true}
use Prim.Native.Nat.{ℕ}
use native.Mathlib.Nat.{lt_trans}
use borrow.Author.Tests.{lt-ltb}
use Rattle.annex10.specs.declared.Repairs.{Repairs}
use Rattle.annex10.specs.declared.Repairs.TheVariants.{None, One, Two}
use Rattle.annex10.specs.Repair.{Proper, inside}

pub proper_inside : (bytes : ℕ) (ρ : Repairs) → Proper bytes ρ → inside bytes ρ ≡ true
proper_inside bytes None h = refl
proper_inside bytes (One j) h = lt-ltb _ _ h
proper_inside bytes (Two j k) h = rw (lt-ltb _ _ (lt_trans h.0 h.1), lt-ltb _ _ h.1)
