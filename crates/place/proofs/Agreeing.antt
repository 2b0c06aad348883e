-- Laws of a location.
--     agrees_is                        the trial of a record that agrees, and the other way
--     recorded_gives, recorded_is      what number 0 says of a record, and the other way
--     located_gives, located_is        of a location
--     earlier_carried, later_carried   a neighbour of a location that is not refused
--     earlier_kept, later_kept         it keeps trial, slicer and positions, agrees, and is not refused itself
-- Assumes nothing.
use mathlib.Core.Path.{◌≡◌, refl, subst}
use mathlib.Core.Bool.{Bool, true, false, ◌&&◌, cond}
use mathlib.Core.Logic.{◌↔◌}
use Prim.Native.Nat.{ℕ, zero, suc, ◌+◌, ◌-◌, ◌*◌, ◌≤◌, ◌<◌}
use native.Mathlib.Omega.{arith}
use lib.Dec.{leb, ltb}
use borrow.Author.Tests.{eq-eqb, eqb-true, le-leb, leb-true, ltb-true}
use Rattle.lists.specs.Told.{done, refused}
use Rattle.lists.proofs.Telling.{same_values, not_done}
use Rattle.annex10.specs.Repair.{count, inside}
use Rattle.annex10.specs.declared.Repairs.{Repairs}
use Rattle.annex10.specs.declared.Repairs.TheVariants.{None, One, Two}
use Rattle.place.specs.declared.Place.{Place}
use Rattle.place.specs.declared.location.Location.{Location}
use Rattle.place.specs.Step.{sample_start, last_symbol, starting_at, starts_by, within, earlier_of, later_of}
use Rattle.place.specs.Agrees.{trial_of, agrees, last_trial, record_number, location_number, moved_to, carried, earlier_location, later_location, Kept}
use Rattle.place.proofs.Within.{Within, starts_gives, within_gives, within_is}
use Rattle.place.proofs.Steps.{earlier_to, later_to, starting_within}

pub count_few : (ρ : Repairs) → count ρ ≤ 2
count_few None = omega arith
count_few (One j) = omega arith
count_few (Two j k) = omega arith

pub agrees_is : (l : Location) → (agrees l ≡ true) ↔ (l.trial ≡ trial_of l.slicer l.repairs)
unfolding agrees
agrees_is l = (λ e. eqb-true l.trial (trial_of l.slicer l.repairs) e, λ e. eq-eqb l.trial (trial_of l.slicer l.repairs) e)

-- ---- a location that is not refused

pub record Recorded (n : ℕ) (l : Location) : Type 0 where
  pub agreed : agrees l ≡ true
  pub made : l.trial ≤ last_trial n
  pub inside : inside n l.repairs ≡ true

pub record Located (n : ℕ) (l : Location) : Type 0 where
  pub place : within n l.place ≡ true
  pub rest : Recorded n l

module _ (n : ℕ) (l : Location) where
  pub recorded_gives : record_number n l ≡ 0 → Recorded n l
  unfolding record_number
  recorded_gives = go (agrees l) (leb l.trial (last_trial n)) (inside n l.repairs) refl refl refl
    where
      go : (b c d : Bool) → agrees l ≡ b → leb l.trial (last_trial n) ≡ c → inside n l.repairs ≡ d
          → ◌≡◌ {A = ℕ} (cond (b && c) (cond d 0 8) 7) 0 → Recorded n l
      go true true true f g h z = record { agreed = f; made = leb-true _ _ g; inside = h }
      go true true false f g h z = absurd (omega arith)
      go true false d f g h z = absurd (omega arith)
      go false c d f g h z = absurd (omega arith)

  pub recorded_is : Recorded n l → record_number n l ≡ 0
  unfolding record_number
  recorded_is t = rw (t.agreed, le-leb l.trial (last_trial n) t.made, t.inside)

  pub located_gives : location_number n l ≡ 0 → Located n l
  unfolding location_number
  located_gives = go (within n l.place) refl
    where
      go : (a : Bool) → within n l.place ≡ a → cond a (record_number n l) 7 ≡ 0 → Located n l
      go true e z = record { place = e; rest = recorded_gives z }
      go false e z = absurd (omega arith)

  pub located_is : Located n l → location_number n l ≡ 0
  unfolding location_number
  located_is t = rw t.place (recorded_is t.rest)

-- ---- its neighbours

moved_located : (n : ℕ) (l : Location) (p : Place) → Recorded n l → Within n p → Located n (moved_to l p)
unfolding agrees
moved_located n l p t w = record { place = within_is n p w; rest = record { agreed = t.agreed; made = t.made; inside = t.inside } }

module _ (n : ℕ) (l : Location) (t : Located n l) where
  pub earlier_carried : 0 < sample_start l.place → earlier_location n l ≡ done (moved_to l (starting_at (sample_start l.place - 1)))
  unfolding earlier_location
  earlier_carried h = rw (earlier_to n l.place (within_gives n l.place t.place) h, recorded_is n l t.rest)

  pub later_carried : sample_start l.place < 4 * last_symbol n + 3 → later_location n l ≡ done (moved_to l (starting_at (sample_start l.place + 1)))
  unfolding later_location
  later_carried h = rw (later_to n l.place (within_gives n l.place t.place) h, recorded_is n l t.rest)

-- what is carried to where a step leads
carried_kept : (n : ℕ) (l m : Location) (s : ℕ) → Within n (starting_at s) → (r : ℕ) → record_number n l ≡ r
    → carried r l (done (starting_at s)) ≡ done m → Kept n l m
carried_kept n l m s w zero e g =
    let i : moved_to l (starting_at s) ≡ m = same_values g in
    let t = moved_located n l (starting_at s) (recorded_gives n l e) w in
    subst (Kept n l) i
    (record { trial = refl; slicer = refl; repairs = refl; agreed = t.rest.agreed; taken = located_is n (moved_to l (starting_at s)) t })
carried_kept n l m s w (suc r) e g = absurd (not_done g)

module _ (n : ℕ) (l m : Location) where
  pub earlier_kept : earlier_location n l ≡ done m → Kept n l m
  unfolding earlier_location earlier_of
  earlier_kept = go (starts_by (last_symbol n) l.place) (ltb 0 (sample_start l.place)) refl refl
    where
      go : (a b : Bool) → starts_by (last_symbol n) l.place ≡ a → ltb 0 (sample_start l.place) ≡ b
          → carried (record_number n l) l (cond a (cond b (done (starting_at (sample_start l.place - 1))) (refused 7)) (refused 7)) ≡ done m → Kept n l m
      go false b e f g = absurd (not_done g)
      go true false e f g = absurd (not_done g)
      go true true e f g =
          let w = starts_gives (last_symbol n) l.place e in
          carried_kept n l m (sample_start l.place - 1) (starting_within n (sample_start l.place - 1) (omega arith)) (record_number n l) refl g

  pub later_kept : later_location n l ≡ done m → Kept n l m
  unfolding later_location later_of
  later_kept = go (starts_by (last_symbol n) l.place) (ltb (sample_start l.place) (4 * last_symbol n + 3)) refl refl
    where
      go : (a b : Bool) → starts_by (last_symbol n) l.place ≡ a → ltb (sample_start l.place) (4 * last_symbol n + 3) ≡ b
          → carried (record_number n l) l (cond a (cond b (done (starting_at (sample_start l.place + 1))) (refused 7)) (refused 7)) ≡ done m → Kept n l m
      go false b e f g = absurd (not_done g)
      go true false e f g = absurd (not_done g)
      go true true e f g =
          carried_kept n l m (sample_start l.place + 1) (starting_within n (sample_start l.place + 1) (omega (arith, ltb-true (sample_start l.place) (4 * last_symbol n + 3) f))) (record_number n l) refl g
