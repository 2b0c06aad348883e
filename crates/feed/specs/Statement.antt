-- WHAT IS PROVED of a program that reads, hands over and says what is to be said.
-- Assumes nothing.
use Rattle.std.specs.Prelude.{◌≡◌, List, [], ◌∷◌, ◌++◌, ◌≢◌, ◌⊎◌, ℕ, ◌+◌, ◌-◌, ◌≤◌, ◌<◌, length}
use Rattle.lists.specs.From.{tabulate}
use Rattle.refusals.specs.declared.Refusal.TheVariants.{Malformed}
use Rattle.search.specs.declared.Answer.{Answer}
use Rattle.search.specs.Kinds.{Kind}
use Rattle.search.specs.Answers.{decode_of}
use Rattle.words.specs.Words.{float_at}
use Rattle.listing.specs.Lines.{said_number}
use Rattle.listing.specs.Determines.{Either}
use Rattle.feed.specs.declared.Field.{Field}
use Rattle.feed.specs.declared.Field.TheVariants.{
  SettingsCount,
  Level,
  Threshold,
  Second,
  Distance,
  WindowCount,
  SampleCount,
}
use Rattle.feed.specs.declared.Stage.{Stage}
use Rattle.feed.specs.declared.Stage.TheVariants.{Number, Index, Samples, End, Over}
use Rattle.feed.specs.declared.State.{State}
use Rattle.feed.specs.declared.Said.TheVariants.{Nothing}
use Rattle.feed.specs.Parts.{Stop, end, failure, Line, head, window, refusal}
use Rattle.feed.specs.Lines.{lines_of}
use Rattle.feed.specs.Listing.{texts, listing_of}
use Rattle.feed.specs.Machine.{start_of, wanted_of, says, refuses_with, fed_of, failed_of}
use Rattle.feed.specs.Run.{said_of}

-- how many parts are still to come, at most: there are up to 64 indices and up to 64 windows
abbrev pub left_from : Field → ℕ
left_from SettingsCount = 136
left_from Level = 135
left_from Threshold = 134
left_from Second = 133
left_from Distance = 132
left_from WindowCount = 131
left_from SampleCount = 66

abbrev pub left_at : Stage → ℕ → ℕ
left_at (Number f) done = left_from f
left_at Index done = 66 + (64 - done)
left_at Samples done = 1 + (64 - done)
left_at End done = 1
left_at Over done = 0

unfoldable pub left_of : State → ℕ
left_of s = left_at s.stage s.done

-- some lines are others, or the same with refusal 10 behind them
abbrev pub OrRefused : List Line → List Line → Type 0
OrRefused a b = (a ≡ b) ⊎ (a ≡ b ++ (refusal 10 ∷ []))

-- the samples of a window are 9,240 bytes, and a decode of them, of either kind, finds a message or none: it refuses nothing, and is said
-- by its own number
abbrev pub NotRefused : Line → Type 0
NotRefused (head n) = Unit {0}
NotRefused (window k s index part) =
    let decode : Kind → Answer = λ kind. decode_of kind (tabulate 2310 (float_at part)) s index in
    (length part ≡ 9240)
    × ((kind : Kind) → (decode kind).number ≤ 1)
    × ((kind : Kind) → Either kind → said_number kind.bytes (decode kind) ≡ (decode kind).number)
NotRefused (refusal n) = Unit {0}

abbrev pub Every : (Line → Type 0) → List Line → Type 0
Every P [] = Unit {0}
Every P (l ∷ ls) = P l × Every P ls

pub record Feeds : Type 0 where
  -- Of an input that is fed in the wanted parts its lines are said, wherever and however it stops. 136 steps are always enough.
  pub lines : (steps : ℕ) (stop : Stop) (input : List ℕ) → 136 ≤ steps → said_of steps stop start_of input ≡ lines_of stop input
  -- So a program that prints the text of each line as it is said prints the listing.
  pub prints : (steps : ℕ) (input : List ℕ) → 136 ≤ steps → texts (said_of steps end start_of input) ≡ listing_of input
  -- Of an input that cannot be read any further the same is said as of one that ends there, with refusal 10 behind it where that end
  -- would have been good.
  pub broken : (input : List ℕ) → OrRefused (lines_of failure input) (lines_of end input)
  -- Of a window is said what its decodes answer.
  pub answered : (stop : Stop) (input : List ℕ) → Every NotRefused (lines_of stop input)
  -- Whatever the state and the part, fewer are left after a step: a program that goes on while something is wanted ends.
  pub nearer : (s : State) (part : List ℕ) → wanted_of s ≢ 0 → left_of (fed_of s part).state < left_of s
  pub nearer_failed : (s : State) → wanted_of s ≢ 0 → left_of (failed_of s).state < left_of s
  -- A part that could not be read adds refusal 10 to what was said, and then all is over.
  pub fails : (s : State) → wanted_of s ≢ 0 → failed_of s ≡ refuses_with Malformed
  -- Once all is over nothing more is said.
  pub over : (s : State) (part : List ℕ) → wanted_of s ≡ 0 → (fed_of s part ≡ says Nothing s) × (failed_of s ≡ says Nothing s)
