-- When a message at a location came: the sample's index and the fraction of a sample.
-- Assumes nothing.
use Rattle.std.specs.Prelude.{cond, List, ℕ, ◌+◌, ◌-◌, Float}
use Rattle.std.specs.Float.Ieee.{lt}
use Rattle.place.specs.declared.location.Location.{Location}
use Rattle.place.specs.Step.{sample_start, starting_at}
use Rattle.place.specs.Agrees.{moved_to}
use Rattle.math.specs.Parabola.{parabola}
use Rattle.timing.specs.declared.Offset.{Offset}
use Rattle.timing.specs.declared.Offset.TheVariants.{Earlier, Same, Later}
use Rattle.timing.specs.declared.Moves.{Moves}
use Rattle.timing.specs.declared.Moves.TheVariants.{Back, On}
use Rattle.timing.specs.declared.Timing.{Timing}
use Rattle.timing.specs.Subsample.{fraction_of, timing_of}
use Rattle.search.specs.declared.Prompt.{Prompt}
use Rattle.search.specs.Window.{Window}

-- the same reading where it starts with sample s
abbrev pub started_at : Location → ℕ → Location
started_at l s = moved_to l (starting_at s)

-- a message is looked at there
unfoldable pub look_at : Window → List ℕ → Location → Offset → Prompt
look_at w message l offset = record { location = l; power = w.prompt l.place message; offset = offset }

-- a neighbour takes over if its power is strictly greater
unfoldable pub over : Prompt → Prompt → Prompt
over held new = cond (lt held.power new.power) new held

-- the prompt: the location itself, the neighbour one clock phase earlier, then the one later
unfoldable pub prompt_of : Window → List ℕ → Location → Prompt
prompt_of w message l =
    let s = sample_start l.place in
    over (over (look_at w message l Same) (look_at w message (started_at l (s - 1)) Earlier)) (look_at w message (started_at l (s + 1)) Later)

-- the parabola about the prompt
unfoldable pub about : Window → List ℕ → Prompt → Float
about w message p =
    let s = sample_start p.location.place in
    parabola (w.prompt (starting_at (s - 1)) message) p.power (w.prompt (starting_at (s + 1)) message)

-- the fraction of a message, before any sample moves
abbrev pub fraction_at : Window → List ℕ → Location → Float
fraction_at w message l = let p = prompt_of w message l in fraction_of (about w message p) p.offset

-- its moves, and the fraction that they leave
unfoldable pub timing_at : Window → List ℕ → Location → Timing
timing_at w message l = timing_of (fraction_at w message l)

abbrev pub moved : Moves → ℕ → ℕ
moved (On n) index = index + n
moved (Back n) index = index - n

-- the index of the window's sample 128 is given; the window's own start with 128 less
unfoldable pub index_of : ℕ → ℕ → Moves → ℕ
index_of given s moves = moved moves (given - 128 + s)
