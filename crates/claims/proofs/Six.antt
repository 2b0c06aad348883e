-- Which of the six: wherever a location is made, its trial, its slicer and its positions agree.
-- Assumes nothing.
use mathlib.Core.Path.{◌≡◌, refl, ap}
use mathlib.Core.Bool.{Bool, true, false, cond}
use mathlib.Core.List.{List}
use mathlib.Core.Logic.{◌↔◌}
use Prim.Native.Nat.{ℕ, ◌≤◌}
use native.Mathlib.Omega.{arith}
use lib.Ieee.{Float, lt}
use Rattle.annex10.proofs.Positions.{proper_inside}
use Rattle.place.specs.declared.Place.{Place}
use Rattle.place.specs.declared.Slicer.{Slicer}
use Rattle.place.specs.declared.Slicer.TheVariants.{Coherent, Noncoherent}
use Rattle.place.specs.declared.location.Location.{Location}
use Rattle.place.specs.All.{listed}
use Rattle.place.specs.Agrees.{side, trial_of, agrees, last_trial, location_number, moved_to}
use Rattle.place.proofs.Within.{listed_gives, within_is}
use Rattle.place.proofs.Agreeing.{agrees_is, located_is, earlier_kept, later_kept}
use Rattle.search.specs.declared.Settings.{Settings}
use Rattle.search.specs.declared.Prompt.{Prompt}
use Rattle.search.specs.declared.Answer.{Answer}
use Rattle.search.specs.Kinds.{Kind, long, short}
use Rattle.search.specs.Window.{Window}
use Rattle.search.specs.When.{look_at, over, prompt_of}
use Rattle.search.specs.Answers.{place_number, decode_of}
use Rattle.search.proofs.Passing.{each_agrees}
use Rattle.search.proofs.Locating.{Makes, made_long, made_short}
use Rattle.claims.specs.Audited.{Returned, Audited}
use Rattle.claims.specs.Six.{Agreed, SameReading, Taken, WhichOfSix}
use Rattle.claims.proofs.Fitting.{side_top}
use Rattle.claims.proofs.Uses.{Sound, places_of_law, sound_long, sound_short}
use Rattle.claims.proofs.Decode.{audited, audited_short}

-- ---- what is tested

tested : (l : Location) → (agrees l ≡ true) ↔ Agreed l
tested l = (
  λ e.
      let n = (agrees_is l).0 e in
      record { coherent = λ z. omega (arith, ap side z); noncoherent = λ z. omega (arith, ap side z) },
  λ a. (agrees_is l).1 (go a l.slicer refl),
)
  where
    go : Agreed l → (z : Slicer) → l.slicer ≡ z → l.trial ≡ trial_of l.slicer l.repairs
    go a Coherent e = omega (arith, a.coherent e, ap side e)
    go a Noncoherent e = omega (arith, a.noncoherent e, ap side e)

-- ---- the prompt

-- whichever of two takes over
over_keeps : (l : Location) (h n : Prompt) → SameReading l h.location → SameReading l n.location → SameReading l (over h n).location
unfolding over
over_keeps l h n x y = go (lt h.power n.power)
  where
    go : (b : Bool) → SameReading l (cond b n h).location
    go true = y
    go false = x

at_place : (l : Location) (p : Place) → SameReading l (moved_to l p)
unfolding agrees
at_place l p = record { trial = refl; slicer = refl; repairs = refl; agrees_too = refl }

prompt : (w : Window) (message : List ℕ) (l : Location) → SameReading l (prompt_of w message l).location
unfolding prompt_of look_at
prompt w message l = over_keeps l _ _ (over_keeps l _ _ (at_place l _) (at_place l _)) (at_place l _)

-- ---- what is returned

module _ (kind : Kind) (sound : Sound kind) (made : Makes kind) where
  taken : (samples : List Float) (s : Settings) (index : ℕ) (a : Answer) (l : Location) → Returned kind samples s index a l
      → Taken kind (last_trial kind.bytes) l
  unfolding place_number
  taken samples s index a l r =
      let f = r.chosen.held.1.first.fits in
      let e : listed kind.last l.place ≡ true = ((places_of_law kind).each l.place).0 r.chosen.held.0 in
      let g = listed_gives kind.last l.place e in
      let agreed : agrees l ≡ true = (agrees_is l).1 r.trial in
      let low : l.trial ≤ last_trial kind.bytes = omega (arith, r.trial, f.few, side_top l.slicer, made) in
      let z : location_number kind.bytes l ≡ 0 = located_is kind.bytes l (record {
        place = within_is kind.bytes l.place (record { phase = g.phase; symbol = g.symbol; start = omega (arith, g.to, g.symbol, sound.room) });
        rest = record { agreed = agreed; made = low; inside = proper_inside kind.bytes l.repairs f.positions };
      }) in
      record { agreed = agreed; made = low; taken = z; searched = rw e z }

  which_of : Audited kind (decode_of kind) → WhichOfSix kind (last_trial kind.bytes)
  which_of a =
      record {
        tested = tested;
        steps = λ level p c n k. (each_agrees kind level p c n k).so;
        earlier = earlier_kept kind.bytes;
        later = later_kept kind.bytes;
        prompt = prompt;
        returned = λ samples s index z. taken samples s index _ _ ((a.answered samples s index).returned z);
      }

-- OF EITHER KIND
pub which_of_six : WhichOfSix long 6
unfolding long
which_of_six = which_of long sound_long made_long audited

pub which_of_six_short : WhichOfSix short 4
unfolding short
which_of_six_short = which_of short sound_short made_short audited_short
