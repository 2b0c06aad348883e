-- Laws of the number that an answer is said by.
--     said_own        it is the answer's own, unless there is a message at a location that is refused
--     said_found      where the answer has a message, it is what is refused of the location
--     said_taken      where it is 0 the location is taken
--     said_none       it is 1 exactly where the search found nothing
--     said_less       it is no larger than numbers of 32 bits are
--     said_disagrees  a message whose record does not agree is said by 7
-- Assumes nothing.
use mathlib.Core.Path.{◌≡◌, refl, ◌∙◌}
use mathlib.Core.Bool.{Bool, true, false, ◌&&◌, cond}
use mathlib.Core.Logic.{◌↔◌}
use Prim.Native.Nat.{ℕ, ◌^◌, ◌<◌}
use native.Mathlib.Omega.{arith}
use borrow.Author.Tests.{eq-eqb, eqb-true, eqb-false}
use lib.Dec.{eqb, leb}
use Rattle.annex10.specs.Repair.{inside}
use Rattle.place.specs.declared.location.Location.{Location}
use Rattle.place.specs.Step.{within}
use Rattle.place.specs.Agrees.{agrees, last_trial, record_number, location_number}
use Rattle.search.specs.declared.Answer.{Answer}
use Rattle.search.specs.Answers.{or_number}
use Rattle.listing.specs.Lines.{said_number}

-- the first refusal is none, so it is what comes after
pub or_zero : (n m : ℕ) → or_number n m ≡ 0 → m ≡ 0
or_zero n m = go (eqb n 0) refl
  where
    go : (b : Bool) → eqb n 0 ≡ b → cond b m n ≡ 0 → m ≡ 0
    go true e q = q
    go false e q = absurd (eqb-false n 0 e q)

-- ---- what is refused of a location is 0, 7 or 8

record Refusal (x : ℕ) : Type 0 where
  not_one : x ≡ 1 → ⊥
  less : x < 2 ^ 32

one_of : (n : ℕ) (l : Location) → Refusal (location_number n l)
unfolding location_number record_number
one_of n l = go (within n l.place) (agrees l && leb l.trial (last_trial n)) (inside n l.repairs)
  where
    go : (a b c : Bool) → Refusal (cond a (cond b (cond c 0 8) 7) 7)
    go false b c = record { not_one = λ e. omega arith; less = omega arith }
    go true false c = record { not_one = λ e. omega arith; less = omega arith }
    go true true false = record { not_one = λ e. omega arith; less = omega arith }
    go true true true = record { not_one = λ e. omega arith; less = omega arith }

disagrees : (n : ℕ) (l : Location) → agrees l ≡ false → location_number n l ≡ 7
unfolding location_number record_number
disagrees n l e = rw e (go (within n l.place))
  where
    go : (a : Bool) → ◌≡◌ {A = ℕ} (cond a 7 7) 7
    go true = refl
    go false = refl

-- ---- the number

module _ (n : ℕ) (a : Answer) where
  pub said_own : (a.number ≡ 0 → location_number n a.location ≡ 0) → said_number n a ≡ a.number
  unfolding said_number
  said_own h = go (eqb a.number 0) refl
    where
      go : (b : Bool) → eqb a.number 0 ≡ b → cond b (location_number n a.location) a.number ≡ a.number
      go true e = let z = eqb-true a.number 0 e in omega (arith, h z)
      go false e = refl

  pub said_found : a.number ≡ 0 → said_number n a ≡ location_number n a.location
  unfolding said_number
  said_found e = rw (eq-eqb a.number 0 e)

  pub said_taken : said_number n a ≡ 0 → location_number n a.location ≡ 0
  unfolding said_number
  said_taken = or_zero a.number (location_number n a.location)

  pub said_none : (said_number n a ≡ 1) ↔ (a.number ≡ 1)
  unfolding said_number
  said_none = (go (eqb a.number 0) refl, λ e. said_own (λ z. absurd (omega arith)) ∙ e)
    where
      go : (b : Bool) → eqb a.number 0 ≡ b → cond b (location_number n a.location) a.number ≡ 1 → a.number ≡ 1
      go true e q = absurd ((one_of n a.location).not_one q)
      go false e q = q

  pub said_less : a.number < 2 ^ 32 → said_number n a < 2 ^ 32
  unfolding said_number
  said_less h = go (eqb a.number 0)
    where
      go : (b : Bool) → cond b (location_number n a.location) a.number < 2 ^ 32
      go true = (one_of n a.location).less
      go false = h

  pub said_disagrees : a.number ≡ 0 → agrees a.location ≡ false → said_number n a ≡ 7
  said_disagrees e d = said_found e ∙ disagrees n a.location d
