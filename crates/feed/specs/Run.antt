-- WHAT IS SAID of an input that is fed in the parts that are wanted.
-- Assumes nothing.
use Rattle.std.specs.Prelude.{cond, List, [], ◌∷◌, ◌++◌, ℕ, zero, suc, eqb, leb, length, take, drop}
use Rattle.refusals.specs.Refusals.{number}
use Rattle.feed.specs.declared.State.{State}
use Rattle.feed.specs.declared.Said.{Said}
use Rattle.feed.specs.declared.Said.TheVariants.{Nothing, Head, Window, Refused}
use Rattle.feed.specs.declared.Fed.{Fed}
use Rattle.feed.specs.Parts.{Stop, end, failure, Line, head, window, refusal}
use Rattle.feed.specs.Machine.{wanted_of, fed_of, failed_of}

-- the line that is said of a part, if any
abbrev pub line_of : Said → List ℕ → List Line
line_of Nothing part = []
line_of (Head n) part = head n ∷ []
line_of (Window w) part = window w.window w.settings w.index part ∷ []
line_of (Refused e) part = refusal (number e) ∷ []

-- fewer bytes are left than are wanted
abbrev pub short_fed : Stop → State → List ℕ → Fed
short_fed end s rest = fed_of s rest
short_fed failure s rest = failed_of s

-- what comes of reading as many bytes as are wanted
unfoldable pub read_fed : Stop → State → List ℕ → Fed
read_fed stop s input = cond (leb (wanted_of s) (length input)) (fed_of s (take (wanted_of s) input)) (short_fed stop s input)

-- in so many steps: read, hand over, say, and again with what is left, until nothing is wanted
unfoldable pub said_of : ℕ → Stop → State → List ℕ → List Line
said_of zero stop s input = []
said_of (suc steps) stop s input =
    let fed = read_fed stop s input in
    cond (eqb (wanted_of s) 0) []
    (line_of fed.said (take (wanted_of s) input) ++ said_of steps stop fed.state (drop (wanted_of s) input))
