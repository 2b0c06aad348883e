-- Which calls over a spectrum are taken. N is the number of its bins.
-- Assumes nothing.
use Rattle.std.specs.Prelude.{Bool, not, cond, ◌&&◌, ℕ, ◌-◌, ◌/◌, ◌%◌, eqb, leb, ltb, Float}
use Rattle.std.specs.Float.Ieee.Scale.{finite}
use Rattle.std.specs.Float.Ieee.{lt}
use Rattle.floats.specs.Numbers.{zero_f}

-- N is even, 4 to 4,096
unfoldable pub bins_taken : ℕ → Bool
bins_taken n = leb 4 n && (leb n 4096 && eqb (n % 2) 0)

-- a threshold is finite and not below 0: -0.0 is taken
unfoldable pub threshold_taken : Float → Bool
threshold_taken t = finite t && not (lt t zero_f)

-- the number of a search: a search half-width M is at most N/2 − 2
unfoldable pub search_number : ℕ → ℕ → ℕ
search_number n m =
    cond (bins_taken n)
    (cond (leb m (n / 2 - 2)) 0
    9)
    2

-- the number of a floor: its bin is one of the spectrum, and a notch half-width W is below N
unfoldable pub floor_number : ℕ → ℕ → ℕ → ℕ
floor_number n bin w =
    cond (bins_taken n)
    (cond (ltb bin n)
    (cond (ltb w n) 0
    9)
    7)
    2

-- the number of a carrier call
unfoldable pub carrier_number : ℕ → ℕ → ℕ → Float → ℕ
carrier_number n m w threshold =
    cond (bins_taken n)
    (cond (threshold_taken threshold)
    (cond (leb m (n / 2 - 2))
    (cond (ltb w n) 0
    9)
    9)
    5)
    2
