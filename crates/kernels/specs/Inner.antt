-- What private functions compute: no public contract cites it.
-- Assumes nothing.
use Rattle.std.specs.Prelude.{List, ℕ, ◌+◌, get_or, Float}
use Rattle.std.specs.Float.{binary32, nan}
use Rattle.std.specs.Float.Ieee.{add}
use Rattle.floats.specs.Numbers.{zero_f}

-- number i of a row and the next three of its part, one after the other
unfoldable pub four_from : List Float → ℕ → Float
four_from xs i =
    add binary32 (add binary32 (add binary32 (add binary32 zero_f (get_or xs i nan)) (get_or xs (i + 2) nan)) (get_or xs (i + 4) nan)) (get_or xs (i + 6) nan)
