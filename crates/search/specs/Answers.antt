-- What a decode answers, and what is refused: for either kind of message.
-- Assumes nothing.
use Rattle.std.specs.Prelude.{◌&&◌, cond, List, ℕ, ◌^◌, eqb, leb, length, replicate, Float}
use Rattle.std.proofs.Math.Option.{Option, none, some}
use Rattle.std.specs.Float.Ieee.Scale.{finite}
use Rattle.lists.specs.Told.{Told, tell}
use Rattle.floats.specs.Numbers.{zero_f}
use Rattle.annex10.specs.declared.Repairs.TheVariants.{None}
use Rattle.place.specs.declared.Place.{Place}
use Rattle.place.specs.declared.Slicer.TheVariants.{Coherent}
use Rattle.place.specs.declared.location.Location.{Location}
use Rattle.place.specs.Step.{sample_start}
use Rattle.place.specs.All.{listed}
use Rattle.place.specs.Agrees.{location_number}
use Rattle.search.specs.declared.Settings.{Settings}
use Rattle.search.specs.declared.Candidate.{Candidate}
use Rattle.search.specs.declared.Arrival.{Arrival}
use Rattle.search.specs.declared.Answer.{Answer}
use Rattle.search.specs.Choice.{candidate_at, best}
use Rattle.search.specs.Kinds.{Kind}
use Rattle.search.specs.Seen.{seen}
use Rattle.search.specs.When.{timing_at, index_of}

-- ---- refusals: the lowest number that applies

-- the first refusal, or what comes after it
abbrev pub or_number : ℕ → ℕ → ℕ
or_number n m = cond (eqb n 0) m n

-- a window has 2,310 numbers, else 2
unfoldable pub window_number : List Float → ℕ
window_number samples = cond (eqb (length samples) 2310) 0 2

-- the level is 0, 1 or 2, else 4; the thresholds are neither NaN nor infinite, else 5
unfoldable pub settings_number : Settings → ℕ
settings_number s = cond (leb s.level 2) (cond (finite s.threshold && finite s.second) 0 5) 4

-- an index is 128 to 2^63, else 6
unfoldable pub index_number : ℕ → ℕ
index_number index = cond (leb 128 index && leb index (2 ^ 63)) 0 6

-- a place is one of those that are searched, else 7
unfoldable pub place_number : Kind → Place → ℕ
place_number kind p = cond (listed kind.last p) 0 7

-- a location lies at such a place, and its record is one that is taken
abbrev pub searched_number : Kind → Location → ℕ
searched_number kind l = or_number (place_number kind l.place) (location_number kind.bytes l)

-- ---- zeros

abbrev pub nowhere : Location
nowhere = record { place = record { bit = 0; phase = 0; symbol = 0 }; trial = 0; slicer = Coherent; repairs = None }

abbrev pub no_candidate : Kind → Candidate
no_candidate kind =
    record {
      location = nowhere;
      message = replicate kind.bytes 0;
      prompt = zero_f;
      cn0 = zero_f;
      undecided = 0;
    }

abbrev pub refused_answer : Kind → ℕ → Answer
refused_answer kind n =
    record {
      number = n;
      location = nowhere;
      message = replicate kind.bytes 0;
      cn0 = zero_f;
      index = 0;
      fraction = zero_f;
      undecided = 0;
    }

-- ---- answers

-- the surviving reading of a place, or of all places: number 0 with it, 1 with zeros where there is none, else a refusal's number with zeros
pub record Survivor : Type 0 where
  pub number : ℕ
  pub candidate : Candidate

-- what is found, with its number: 1 where it is nothing
abbrev pub survivor_of : Kind → Option Candidate → Survivor
survivor_of kind none = record { number = 1; candidate = no_candidate kind }
survivor_of kind (some c) = record { number = 0; candidate = c }

-- the same with a refusal before it
unfoldable pub survivor_or : Kind → ℕ → Option Candidate → Survivor
survivor_or kind n o = cond (eqb n 0) (survivor_of kind o) (record { number = n; candidate = no_candidate kind })

-- the surviving reading of a place
unfoldable pub read_at : Kind → List Float → Settings → Place → Survivor
read_at kind samples s p =
    survivor_or kind (or_number (window_number samples) (or_number (settings_number s) (place_number kind p)))
    (candidate_at kind s (seen kind samples) p)

-- the best of all places
unfoldable pub best_of : Kind → List Float → Settings → Survivor
best_of kind samples s = survivor_or kind (or_number (window_number samples) (settings_number s)) (best kind s (seen kind samples))

-- when a message at a location came
unfoldable pub arrival_at : Kind → List Float → Location → List ℕ → ℕ → Told Arrival
arrival_at kind samples l message index =
    let t = timing_at (seen kind samples) message l in
    tell (or_number (window_number samples) (or_number (index_number index) (searched_number kind l)))
    (record { index = index_of index (sample_start l.place) t.moves; fraction = t.fraction })

-- a candidate with its time
unfoldable pub answer_of : Kind → List Float → ℕ → Candidate → Answer
answer_of kind samples index c =
    let t = timing_at (seen kind samples) c.message c.location in
    record {
      number = 0;
      location = c.location;
      message = c.message;
      cn0 = c.cn0;
      index = index_of index (sample_start c.location.place) t.moves;
      fraction = t.fraction;
      undecided = c.undecided;
    }

abbrev pub answered : Kind → List Float → ℕ → Option Candidate → Answer
answered kind samples index none = refused_answer kind 1
answered kind samples index (some c) = answer_of kind samples index c

-- THE DECODE
unfoldable pub decode_of : Kind → List Float → Settings → ℕ → Answer
decode_of kind samples s index =
    let n = or_number (window_number samples) (or_number (settings_number s) (index_number index)) in
    cond (eqb n 0) (answered kind samples index (best kind s (seen kind samples))) (refused_answer kind n)
