-- WHAT THE PROGRAM PRINTS: at each step the text of what is said of the part.
-- Assumes nothing.
use Rattle.std.specs.Prelude.{◌≡◌, cond, List, [], ◌++◌, ℕ, zero, suc, ◌≤◌, eqb, leb, length, take, drop}
use Rattle.listing.specs.declared.Text.{Text}
use Rattle.listing.specs.Lines.{text_of}
use Rattle.feed.specs.declared.State.{State}
use Rattle.feed.specs.declared.Fed.{Fed}
use Rattle.feed.specs.Parts.{Stop, end, failure}
use Rattle.feed.specs.Lines.{lines_of}
use Rattle.feed.specs.Listing.{texts, listing_of}
use Rattle.feed.specs.Machine.{start_of, wanted_of, fed_of, failed_of}
use Rattle.feed.specs.Run.{line_of}
use Rattle.program.specs.declared.handed.Step.{Step}

abbrev pub printed_with : Fed → List ℕ → Step
printed_with fed part = record { state = fed.state; text = text_of (texts (line_of fed.said part)) }

unfoldable pub taken_of : State → List ℕ → Step
taken_of s part = printed_with (fed_of s part) part

unfoldable pub broken_off : State → Step
broken_off s = printed_with (failed_of s) []

-- the bytes of a text that count
unfoldable pub shown : Text → List ℕ
shown t = take t.length t.bytes

-- fewer bytes are left than are wanted
abbrev pub short_step : Stop → State → List ℕ → Step
short_step end s rest = taken_of s rest
short_step failure s rest = broken_off s

-- what comes of reading as many bytes as are wanted
unfoldable pub read_step : Stop → State → List ℕ → Step
read_step stop s input = cond (leb (wanted_of s) (length input)) (taken_of s (take (wanted_of s) input)) (short_step stop s input)

-- in so many steps: read, hand over, print, and again with what is left, until nothing is wanted
unfoldable pub printed : ℕ → Stop → State → List ℕ → List ℕ
printed zero stop s input = []
printed (suc steps) stop s input =
    let step = read_step stop s input in
    cond (eqb (wanted_of s) 0) [] (shown step.text ++ printed steps stop step.state (drop (wanted_of s) input))

pub record Prints : Type 0 where
  -- The program prints the listing of its input. 136 steps are always enough.
  pub listing : (steps : ℕ) (input : List ℕ) → 136 ≤ steps → printed steps end start_of input ≡ listing_of input
  -- Where a read fails it prints the lines up to there, and `refused 10`.
  pub broken : (steps : ℕ) (input : List ℕ) → 136 ≤ steps → printed steps failure start_of input ≡ texts (lines_of failure input)
