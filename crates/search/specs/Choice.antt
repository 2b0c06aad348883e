-- The search: which readings survive, which of two is the better, and the best of all places.
-- Assumes nothing.
use Rattle.std.specs.Prelude.{Bool, true, false, ◌&&◌, ◌||◌, cond, ℕ, min, ltb, leb, eqb, Float}
use mathlib.Core.List.{List, foldl}
use Rattle.std.proofs.Math.Option.{Option, none, some}
use Rattle.std.specs.Float.Ieee.{lt}
use Rattle.annex10.specs.Repair.{count, repaired}
use Rattle.place.specs.declared.Place.{Place}
use Rattle.place.specs.declared.Slicer.{Slicer}
use Rattle.place.specs.declared.Slicer.TheVariants.{Coherent, Noncoherent}
use Rattle.place.specs.declared.location.Location.{Location}
use Rattle.search.specs.declared.Settings.{Settings}
use Rattle.search.specs.declared.Tried.{Tried}
use Rattle.search.specs.declared.Tried.TheVariants.{Pass, Fail}
use Rattle.search.specs.declared.Candidate.{Candidate}
use Rattle.search.specs.Kinds.{Kind, places_of}
use Rattle.search.specs.Window.{Window}
use Rattle.search.specs.Trials.{reading}

-- a reading with its message, power and cn0. What it counts are marks of the sliced bits: a repair takes none away
unfoldable pub candidate : Window → Location → Candidate
candidate w l =
    let message = repaired (w.bits l.slicer l.place) l.repairs in
    record {
      location = l;
      message = message;
      prompt = w.prompt l.place message;
      cn0 = w.cn0 l.place message;
      undecided = w.undecided l.slicer l.place;
    }

abbrev pub is_noncoherent : Slicer → Bool
is_noncoherent Coherent = false
is_noncoherent Noncoherent = true

-- two repairs are dropped below the threshold; if noncoherent, also below the second where the slicers' bits differ in too many places
unfoldable pub dropped : Settings → ℕ → Candidate → Bool
dropped s differing c =
    eqb (count c.location.repairs) 2
    && (lt c.cn0 s.threshold || (is_noncoherent c.location.slicer && (lt c.cn0 s.second && leb s.distance differing)))

unfoldable pub survivor : Settings → Window → Tried → Option Candidate
survivor s w Fail = none
survivor s w (Pass l) = cond (dropped s (w.distance l.place) (candidate w l)) none (some (candidate w l))

-- the surviving reading of a place: the level is at most what the kind of message allows
unfoldable pub candidate_at : Kind → Settings → Window → Place → Option Candidate
candidate_at kind s w p = survivor s w (reading kind (min s.level kind.most) p (w.bits Coherent p) (w.bits Noncoherent p))

-- n repairs and the cn0 x displace h repairs and y: fewer, or as many and a strictly greater cn0
abbrev pub beats_by : ℕ → Float → ℕ → Float → Bool
beats_by n x h y = ltb n h || (eqb n h && lt y x)

-- a newcomer displaces the holder
unfoldable pub beats : Candidate → Candidate → Bool
beats new held = beats_by (count new.location.repairs) new.cn0 (count held.location.repairs) held.cn0

abbrev pub better : Option Candidate → Option Candidate → Option Candidate
better none new = new
better (some h) none = some h
better (some h) (some n) = cond (beats n h) (some n) (some h)

-- the best of what f gives at the places, held on from h
unfoldable pub scan : (Place → Option Candidate) → Option Candidate → List Place → Option Candidate
scan f h places = foldl (λ held p. better held (f p)) h places

-- THE SEARCH
unfoldable pub best : Kind → Settings → Window → Option Candidate
best kind s w = scan (candidate_at kind s w) none (places_of kind)
