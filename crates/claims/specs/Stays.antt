-- THE CHOICE STAYS: that bits are marked and counted changes nothing else of what is answered.
-- Assumes nothing.
use Rattle.std.specs.Prelude.{◌≡◌, cond, List, ℕ, eqb, Float}
use Rattle.std.proofs.Math.Option.{Option, none, some}
use Rattle.place.specs.declared.Place.{Place}
use Rattle.search.specs.declared.Settings.{Settings}
use Rattle.search.specs.declared.Candidate.{Candidate}
use Rattle.search.specs.declared.Answer.{Answer}
use Rattle.search.specs.Kinds.{Kind}
use Rattle.search.specs.Window.{Window, unmarked}
use Rattle.search.specs.Seen.{seen}
use Rattle.search.specs.Choice.{candidate_at, best}
use Rattle.search.specs.Answers.{or_number, window_number, settings_number, index_number, refused_answer, answered, decode_of}

-- ---- without marks

-- the decode as it is without marks: `decode_of`, of a search that sees none
unfoldable pub unmarked_decode : Kind → List Float → Settings → ℕ → Answer
unmarked_decode kind samples s index =
    let n = or_number (window_number samples) (or_number (settings_number s) (index_number index)) in
    cond (eqb n 0) (answered kind samples index (best kind s (unmarked (seen kind samples)))) (refused_answer kind n)

-- ---- without the count: every other field

abbrev pub uncounted : Answer → Answer
uncounted a =
    record {
      number = a.number;
      location = a.location;
      message = a.message;
      cn0 = a.cn0;
      index = a.index;
      fraction = a.fraction;
      undecided = 0;
    }

abbrev pub uncounted_reading : Candidate → Candidate
uncounted_reading c =
    record {
      location = c.location;
      message = c.message;
      prompt = c.prompt;
      cn0 = c.cn0;
      undecided = 0;
    }

abbrev pub uncounted_if : Option Candidate → Option Candidate
uncounted_if none = none
uncounted_if (some c) = some (uncounted_reading c)

-- Of either kind of message, and of any window, settings and index.
pub record ChoiceStays (kind : Kind) : Type 0 where
  -- what survives at a place, and what is the best of all, is what it is without marks
  pub place : (s : Settings) (w : Window) (p : Place) → uncounted_if (candidate_at kind s w p) ≡ candidate_at kind s (unmarked w) p
  pub search : (s : Settings) (w : Window) → uncounted_if (best kind s w) ≡ best kind s (unmarked w)
  -- and so is every answer, refusals included
  pub decode : (samples : List Float) (s : Settings) (index : ℕ) → uncounted (decode_of kind samples s index) ≡ unmarked_decode kind samples s index
