-- Numbers and floats as bytes, the lowest byte first.
-- Assumes nothing.
use Rattle.std.specs.Prelude.{cond, List, [], ◌∷◌, ℕ, ◌+◌, ◌*◌, eqb, Float, length, take, drop}
use Rattle.std.specs.Float.{binary32}
use Rattle.std.specs.Float.Ieee.{of_bits}
use Rattle.lists.specs.From.{tabulate}

-- the number that bytes write, the first byte lowest
unfoldable pub little_endian : List ℕ → ℕ
little_endian [] = 0
little_endian (b ∷ bs) = b + 256 * little_endian bs

-- float k of a row of bytes, four bytes each; the patterns of a NaN are all the one NaN
unfoldable pub float_at : List ℕ → ℕ → Float
float_at bs k = of_bits binary32 (little_endian (take 4 (drop (4 * k) bs)))

-- what is answered for a window's bytes, and what the output is afterwards: 2 where they are not 9,240, 3 where it is not 2,310 long
unfoldable pub window_floats : List ℕ → List Float → ℕ × List Float
window_floats bytes out =
    cond (eqb (length bytes) 9240)
    (cond (eqb (length out) 2310) (0, tabulate 2310 (float_at bytes)) (3, out))
    (2, out)
