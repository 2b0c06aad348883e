-- The local maximum over five values: what `check_local_maximum` answers.
-- Assumes nothing.
use Rattle.std.specs.Prelude.{List, Bool, not, cond, ◌||◌, eqb, get_or, length, Float}
use Rattle.std.specs.Float.{nan}
use Rattle.std.specs.Float.Ieee.{le, lt}
use Rattle.lists.specs.Told.{Told, tell}

-- one of the two before is as great as the third
unfoldable pub earlier_as_great : List Float → Bool
earlier_as_great v = le (get_or v 2 nan) (get_or v 0 nan) || le (get_or v 2 nan) (get_or v 1 nan)

-- one of the two after is greater than the third
unfoldable pub later_greater : List Float → Bool
later_greater v = lt (get_or v 2 nan) (get_or v 3 nan) || lt (get_or v 2 nan) (get_or v 4 nan)

-- what `check_local_maximum` answers: whether the third of five values is one, 2 for another number of values
unfoldable pub maximum_of : List Float → Told Bool
maximum_of v = tell (cond (eqb (length v) 5) 0 2) (not (earlier_as_great v || later_greater v))
