-- A sum in a fixed order, from 0.0: each addition is rounded.
-- Assumes nothing.
use Rattle.std.specs.Prelude.{ℕ, zero, suc, Float}
use Rattle.std.specs.Float.{binary32}
use Rattle.std.specs.Float.Ieee.{add}
use Rattle.floats.specs.Numbers.{zero_f}

-- ((0.0 + f 0) + f 1) + .. + f (n - 1)
unfoldable pub total : (ℕ → Float) → ℕ → Float
total f zero = zero_f
total f (suc n) = add binary32 (total f n) (f n)
