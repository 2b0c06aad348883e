-- What private functions rest on: no public contract cites it.
-- Assumes nothing.
use Rattle.std.specs.Prelude.{Bool, true, false, ◌&&◌, ◌||◌, ℕ, Float}
use Rattle.std.specs.Float.Ieee.{le, is_nan}
use Rattle.timing.specs.declared.Moves.{Moves}
use Rattle.timing.specs.declared.Moves.TheVariants.{Back, On}
use Rattle.timing.specs.Subsample.{halves}

-- NaN, or from -2.5 to 1.5: all that timing can give
unfoldable pub in_range : Float → Bool
in_range f = is_nan f || (le (halves true 5) f && le f (halves false 3))

-- how many samples are moved
abbrev pub moves_count : Moves → ℕ
moves_count (On n) = n
moves_count (Back n) = n
