-- Where a step leaves nothing wanted, all is over.
--     nearer_taken, nearer_broken     a step with the part that came, and one whose part could not be read
--     wanted_within                   what is wanted lies within the memory of a step
-- Assumes nothing.
use mathlib.Core.Path.{◌≡◌, refl, ap}
use mathlib.Core.Bool.{Bool, true, false, cond}
use mathlib.Core.List.{List}
use mathlib.Core.Logic.{◌≢◌}
use Prim.Native.Nat.{ℕ, ◌+◌, ◌*◌}
use native.Mathlib.Omega.{arith}
use lib.Dec.{eqb, leb, ltb}
use lib.Ieee.{binary32, of_bits}
use lib.Ieee.Scale.{finite}
use lib.ListN.{length, take}
use lib.Seq.{length-take-le}
use Rattle.search.specs.Answers.{index_number}
use Rattle.words.specs.Words.{little_endian}
use Rattle.refusals.specs.declared.Refusal.{Refusal}
use Rattle.feed.specs.declared.Field.{Field}
use Rattle.feed.specs.declared.Field.TheVariants.{
  SettingsCount,
  Level,
  Threshold,
  Second,
  Distance,
  WindowCount,
  SampleCount,
}
use Rattle.feed.specs.declared.Stage.{Stage}
use Rattle.feed.specs.declared.Stage.TheVariants.{Number, Index, Samples, End, Over}
use Rattle.feed.specs.declared.State.{State}
use Rattle.feed.specs.declared.Fed.{Fed}
use Rattle.feed.specs.Machine.{
  wanted_at,
  wanted_of,
  blank_of,
  provided,
  index_stage,
  samples_stage,
  number_fed,
  index_fed,
  samples_fed,
  sized,
  fed_at,
  fed_of,
  failed_of,
}
use Rattle.feed.proofs.Left.{nearer, nearer_failed, failed_is, wanted_most}
use Rattle.program.specs.Inner.{Nearer}

-- where nothing is wanted, all is over, with nothing kept
abbrev Ends : State → Type 0
Ends s = wanted_of s ≡ 0 → s ≡ blank_of Over

-- a check: what is refused is over
ends_provided : (t : Bool) (refusal : Refusal) (fed : Fed) → Ends fed.state → Ends (provided t refusal fed).state
unfolding provided
ends_provided true refusal fed h = h
ends_provided false refusal fed h = λ e. refl

-- the stages behind an index and behind a window want something
some_index : (k w : ℕ) → wanted_at (index_stage k w) ≢ 0
unfolding index_stage
some_index k w = go (ltb k w) where
  go : (b : Bool) → wanted_at (cond b Index (Number SampleCount)) ≢ 0
  go true = λ e. omega arith
  go false = λ e. omega arith

some_samples : (k w : ℕ) → wanted_at (samples_stage k w) ≢ 0
unfolding samples_stage
some_samples k w = go (ltb k w) where
  go : (b : Bool) → wanted_at (cond b Samples End) ≢ 0
  go true = λ e. omega arith
  go false = λ e. omega arith

ends_number : (f : Field) (s : State) (n : ℕ) → Ends (number_fed f s s.settings n).state
unfolding wanted_of
ends_number SettingsCount s n = ends_provided (eqb n 4) _ _ (λ e. absurd (omega arith))
ends_number Level s n = ends_provided (leb n 2) _ _ (λ e. absurd (omega arith))
ends_number Threshold s n = ends_provided (finite (of_bits binary32 n)) _ _ (λ e. absurd (omega arith))
ends_number Second s n = ends_provided (finite (of_bits binary32 n)) _ _ (λ e. absurd (omega arith))
ends_number Distance s n = λ e. absurd (omega arith)
ends_number WindowCount s n = ends_provided (leb n 64) _ _ (λ e. absurd (some_index 0 n e))
ends_number SampleCount s n = ends_provided (eqb n (2310 * s.windows)) _ _ (λ e. absurd (some_samples 0 s.windows e))

ends_at : (g : Stage) (s : State) (part : List ℕ) → wanted_at g ≢ 0 → Ends (fed_at g s part).state
unfolding wanted_of sized index_fed samples_fed
ends_at (Number f) s part some = ends_provided (eqb (length part) 4) _ _ (ends_number f s (little_endian part))
ends_at Index s part some =
    ends_provided (eqb (length part) 8) _ _
    (ends_provided (ltb s.done 64) _ _
    (ends_provided (eqb (index_number (little_endian part)) 0) _ _ (λ e. absurd (some_index (s.done + 1) s.windows e))))
ends_at Samples s part some =
    ends_provided (eqb (length part) 9240) _ _ (ends_provided (ltb s.done 64) _ _ (λ e. absurd (some_samples (s.done + 1) s.windows e)))
ends_at End s part some = ends_provided (eqb (length part) 0) _ _ (λ e. refl)
ends_at Over s part some = absurd (some refl)

pub nearer_taken : (s : State) (part : List ℕ) → Nearer s (fed_of s part).state
unfolding fed_of wanted_of
nearer_taken s part = record { less = nearer s part; ended = λ some. ends_at s.stage s part some }

pub nearer_broken : (s : State) → Nearer s (failed_of s).state
nearer_broken s = record { less = nearer_failed s; ended = λ some e. ap (λ (fed : Fed). fed.state) (failed_is s some) }

-- what is wanted lies within the memory of a step
pub wanted_within : (s : State) (space : List ℕ) → length space ≡ 9240 → length (take (wanted_of s) space) ≡ wanted_of s
wanted_within s space e = length-take-le (wanted_of s) space (omega (arith, wanted_most s))
