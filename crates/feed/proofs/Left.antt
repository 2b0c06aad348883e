-- After a step fewer parts are left, whatever the state and the part.
-- Assumes nothing.
use mathlib.Core.Path.{◌≡◌, refl}
use mathlib.Core.Bool.{Bool, true, false, cond}
use mathlib.Core.List.{List}
use mathlib.Core.Logic.{◌≢◌}
use Prim.Native.Nat.{ℕ, ◌+◌, ◌-◌, ◌*◌, ◌≤◌, ◌<◌}
use native.Mathlib.Omega.{arith}
use borrow.Author.Tests.{ltb-true, ne_eqb, eq-eqb}
use lib.Dec.{eqb, leb, ltb}
use lib.Ieee.{binary32, of_bits}
use lib.Ieee.Scale.{finite}
use lib.ListN.{length}
use Rattle.search.specs.Answers.{index_number}
use Rattle.words.specs.Words.{little_endian}
use Rattle.refusals.specs.declared.Refusal.{Refusal}
use Rattle.refusals.specs.declared.Refusal.TheVariants.{Malformed}
use Rattle.feed.specs.declared.Field.{Field}
use Rattle.feed.specs.declared.Field.TheVariants.{
  SettingsCount,
  Level,
  Threshold,
  Second,
  Distance,
  WindowCount,
  SampleCount,
}
use Rattle.feed.specs.declared.Stage.{Stage}
use Rattle.feed.specs.declared.Stage.TheVariants.{Number, Index, Samples, End, Over}
use Rattle.feed.specs.declared.State.{State}
use Rattle.feed.specs.declared.Said.TheVariants.{Nothing}
use Rattle.feed.specs.declared.Fed.{Fed}
use Rattle.feed.specs.Machine.{
  wanted_at,
  wanted_of,
  says,
  refuses_with,
  provided,
  index_stage,
  samples_stage,
  number_fed,
  index_fed,
  samples_fed,
  sized,
  fed_at,
  fed_of,
  failed_of,
}
use Rattle.feed.specs.Statement.{left_from, left_at, left_of}

-- a check: what is refused is over
left_provided : (t : Bool) (refusal : Refusal) (n : ℕ) (fed : Fed) → 0 < n → (t ≡ true → left_of fed.state < n)
    → left_of (provided t refusal fed).state < n
unfolding provided left_of
left_provided true refusal n fed some h = h refl
left_provided false refusal n fed some h = some

left_index : (k w : ℕ) → left_at (index_stage k w) k ≤ 66 + (64 - k)
unfolding index_stage
left_index k w = go (ltb k w) where
  go : (b : Bool) → left_at (cond b Index (Number SampleCount)) k ≤ 66 + (64 - k)
  go true = omega arith
  go false = omega arith

left_samples : (k w : ℕ) → left_at (samples_stage k w) k ≤ 1 + (64 - k)
unfolding samples_stage
left_samples k w = go (ltb k w) where
  go : (b : Bool) → left_at (cond b Samples End) k ≤ 1 + (64 - k)
  go true = omega arith
  go false = omega arith

left_number : (f : Field) (s : State) (n : ℕ) → left_of (number_fed f s s.settings n).state < left_from f
unfolding left_of
left_number SettingsCount s n = left_provided (eqb n 4) _ 136 _ (omega arith) (λ e. omega arith)
left_number Level s n = left_provided (leb n 2) _ 135 _ (omega arith) (λ e. omega arith)
left_number Threshold s n = left_provided (finite (of_bits binary32 n)) _ 134 _ (omega arith) (λ e. omega arith)
left_number Second s n = left_provided (finite (of_bits binary32 n)) _ 133 _ (omega arith) (λ e. omega arith)
left_number Distance s n = omega arith
left_number WindowCount s n = left_provided (leb n 64) _ 131 _ (omega arith) (λ e. omega (arith, left_index 0 n))
left_number SampleCount s n =
    left_provided (eqb n (2310 * s.windows)) _ 66 _ (omega arith) (λ e. omega (arith, left_samples 0 s.windows))

left_at_law : (g : Stage) (s : State) (part : List ℕ) → wanted_at g ≢ 0 → left_of (fed_at g s part).state < left_at g s.done
unfolding sized index_fed samples_fed left_of
left_at_law (Number f) s part some =
    left_provided (eqb (length part) 4) _ (left_from f) _ (omega (arith, left_number f s 0)) (λ e. left_number f s (little_endian part))
left_at_law Index s part some =
    left_provided (eqb (length part) 8) _ (66 + (64 - s.done)) _ (omega arith)
    (λ e.
    left_provided (ltb s.done 64) _ (66 + (64 - s.done)) _ (omega arith)
    (λ l.
    left_provided (eqb (index_number (little_endian part)) 0) _ (66 + (64 - s.done)) _ (omega arith)
    (λ good. omega (arith, left_index (s.done + 1) s.windows, ltb-true s.done 64 l))))
left_at_law Samples s part some =
    left_provided (eqb (length part) 9240) _ (1 + (64 - s.done)) _ (omega arith)
    (λ e.
    left_provided (ltb s.done 64) _ (1 + (64 - s.done)) _ (omega arith)
    (λ l. omega (arith, left_samples (s.done + 1) s.windows, ltb-true s.done 64 l)))
left_at_law End s part some = left_provided (eqb (length part) 0) _ 1 _ (omega arith) (λ e. omega arith)
left_at_law Over s part some = absurd (some refl)

pub nearer : (s : State) (part : List ℕ) → wanted_of s ≢ 0 → left_of (fed_of s part).state < left_of s
unfolding fed_of wanted_of left_of
nearer s part some = left_at_law s.stage s part some

pub failed_is : (s : State) → wanted_of s ≢ 0 → failed_of s ≡ refuses_with Malformed
unfolding failed_of
failed_is s some = simp (ne_eqb (wanted_of s) 0 some)

-- what is left of a stage that wants something
some_at : (g : Stage) (done : ℕ) → wanted_at g ≢ 0 → 0 < left_at g done
some_at (Number SettingsCount) done some = omega arith
some_at (Number Level) done some = omega arith
some_at (Number Threshold) done some = omega arith
some_at (Number Second) done some = omega arith
some_at (Number Distance) done some = omega arith
some_at (Number WindowCount) done some = omega arith
some_at (Number SampleCount) done some = omega arith
some_at Index done some = omega arith
some_at Samples done some = omega arith
some_at End done some = omega arith
some_at Over done some = absurd (some refl)

pub nearer_failed : (s : State) → wanted_of s ≢ 0 → left_of (failed_of s).state < left_of s
unfolding wanted_of left_of
nearer_failed s some = rw (failed_is s some) (some_at s.stage s.done some)

over_at : (g : Stage) (s : State) (part : List ℕ) → wanted_at g ≡ 0 → fed_at g s part ≡ says Nothing s
over_at (Number f) s part e = let z : ⊥ = omega arith in absurd z
over_at Index s part e = let z : ⊥ = omega arith in absurd z
over_at Samples s part e = let z : ⊥ = omega arith in absurd z
over_at End s part e = let z : ⊥ = omega arith in absurd z
over_at Over s part e = refl

pub over : (s : State) (part : List ℕ) → wanted_of s ≡ 0 → (fed_of s part ≡ says Nothing s) × (failed_of s ≡ says Nothing s)
unfolding fed_of wanted_of failed_of
over s part e = (over_at s.stage s part e, simp (eq-eqb (wanted_of s) 0 e))

-- no part is longer than the samples of a window
most_at : (g : Stage) → wanted_at g ≤ 9240
most_at (Number f) = omega arith
most_at Index = omega arith
most_at Samples = omega arith
most_at End = omega arith
most_at Over = omega arith

pub wanted_most : (s : State) → wanted_of s ≤ 9240
unfolding wanted_of
wanted_most s = most_at s.stage
