-- A window is told only where its samples came whole.
-- Assumes nothing.
use mathlib.Core.Path.{◌≡◌, refl}
use mathlib.Core.Bool.{Bool, true, false, cond}
use mathlib.Core.List.{List}
use Prim.Native.Nat.{ℕ, ◌*◌}
use borrow.Author.Tests.{eqb-true}
use lib.Dec.{eqb, leb, ltb}
use lib.Ieee.{binary32, of_bits}
use lib.Ieee.Scale.{finite}
use lib.ListN.{length}
use Rattle.search.specs.Answers.{index_number}
use Rattle.words.specs.Words.{little_endian}
use Rattle.refusals.specs.declared.Refusal.{Refusal}
use Rattle.refusals.specs.declared.Refusal.TheVariants.{Malformed}
use Rattle.feed.specs.declared.Field.{Field}
use Rattle.feed.specs.declared.Field.TheVariants.{
  SettingsCount,
  Level,
  Threshold,
  Second,
  Distance,
  WindowCount,
  SampleCount,
}
use Rattle.feed.specs.declared.Stage.{Stage}
use Rattle.feed.specs.declared.Stage.TheVariants.{Number, Index, Samples, End, Over}
use Rattle.feed.specs.declared.State.{State}
use Rattle.feed.specs.declared.Said.TheVariants.{Nothing}
use Rattle.feed.specs.declared.Fed.{Fed}
use Rattle.feed.specs.Inner.{Whole}
use Rattle.feed.specs.Machine.{wanted_of, says, refuses_with, provided, number_fed, index_fed, samples_fed, sized, fed_at, fed_of, failed_of}

-- a check: what is refused tells no window
whole_provided : (t : Bool) (refusal : Refusal) (fed : Fed) (part : List ℕ) → (t ≡ true → Whole fed.said part)
    → Whole (provided t refusal fed).said part
unfolding provided
whole_provided true refusal fed part h = h refl
whole_provided false refusal fed part h = tt

whole_number : (f : Field) (s : State) (n : ℕ) (part : List ℕ) → Whole (number_fed f s s.settings n).said part
whole_number SettingsCount s n part = whole_provided (eqb n 4) _ _ part (λ e. tt)
whole_number Level s n part = whole_provided (leb n 2) _ _ part (λ e. tt)
whole_number Threshold s n part = whole_provided (finite (of_bits binary32 n)) _ _ part (λ e. tt)
whole_number Second s n part = whole_provided (finite (of_bits binary32 n)) _ _ part (λ e. tt)
whole_number Distance s n part = tt
whole_number WindowCount s n part = whole_provided (leb n 64) _ _ part (λ e. tt)
whole_number SampleCount s n part = whole_provided (eqb n (2310 * s.windows)) _ _ part (λ e. tt)

whole_at : (g : Stage) (s : State) (part : List ℕ) → Whole (fed_at g s part).said part
unfolding sized index_fed samples_fed
whole_at (Number f) s part = whole_provided (eqb (length part) 4) _ _ part (λ e. whole_number f s (little_endian part) part)
whole_at Index s part =
    whole_provided (eqb (length part) 8) _ _ part
    (λ e. whole_provided (ltb s.done 64) _ _ part (λ l. whole_provided (eqb (index_number (little_endian part)) 0) _ _ part (λ g. tt)))
whole_at Samples s part =
    whole_provided (eqb (length part) 9240) _ _ part
    (λ e. whole_provided (ltb s.done 64) _ _ part (λ l. eqb-true (length part) 9240 e))
whole_at End s part = whole_provided (eqb (length part) 0) _ _ part (λ e. tt)
whole_at Over s part = tt

pub whole : (s : State) (part : List ℕ) → Whole (fed_of s part).said part
unfolding fed_of
whole s part = whole_at s.stage s part

-- what could not be read tells no window
pub whole_failed : (s : State) (part : List ℕ) → Whole (failed_of s).said part
unfolding failed_of
whole_failed s part = go (eqb (wanted_of s) 0) where
  go : (b : Bool) → Whole (cond b (says Nothing s) (refuses_with Malformed)).said part
  go true = tt
  go false = tt
