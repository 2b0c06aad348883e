-- The power of a spectrum beside a bin: what `carrier_notched_power` answers.
-- Assumes nothing.
use Rattle.std.specs.Prelude.{List, Bool, cond, ◌||◌, ℕ, zero, suc, ◌+◌, ltb, length, Float}
use Rattle.std.specs.Float.{binary32}
use Rattle.std.specs.Float.Ieee.{add}
use Rattle.lists.specs.Told.{Told, tell}
use Rattle.floats.specs.Numbers.{zero_f}
use Rattle.carrier.specs.Refusals.{floor_number}
use Rattle.carrier.specs.Peaks.{bin_at}

-- bin j lies outside bin ± W
unfoldable pub outside : ℕ → ℕ → ℕ → Bool
outside bin w j = ltb (j + w) bin || ltb (bin + w) j

-- those of the first n bins that lie outside bin ± W, ascending, summed in order from 0.0
unfoldable pub floor_to : List Float → ℕ → ℕ → ℕ → Float
floor_to s bin w zero = zero_f
floor_to s bin w (suc n) =
    cond (outside bin w n)
    (add binary32 (floor_to s bin w n) (bin_at s n))
    (floor_to s bin w n)

-- all bins outside bin ± W
unfoldable pub floor_of : List Float → ℕ → ℕ → Float
floor_of s bin w = floor_to s bin w (length s)

-- what `carrier_notched_power` answers
unfoldable pub floor_at : List Float → ℕ → ℕ → Told Float
floor_at s bin w = tell (floor_number (length s) bin w) (floor_of s bin w)
