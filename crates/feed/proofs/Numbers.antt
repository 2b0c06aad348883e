-- What is said before the samples: the settings, the window count, the indices, each part with all that comes behind it.
-- Assumes nothing.
use mathlib.Core.Path.{◌≡◌, refl, ◌∙◌}
use mathlib.Core.List.{List, [], ◌∷◌, ◌++◌}
use Prim.Native.Nat.{ℕ, zero, suc, ◌+◌, ◌≤◌, ◌<◌}
use native.Mathlib.Nat.{zero-add, suc-add}
use native.Mathlib.Numerals.{add-one}
use native.Mathlib.Omega.{arith}
use borrow.Author.Tests.{lt-ltb, le-ltb, leb-true}
use lib.Dec.{eqb, leb}
use lib.Ieee.{Float, binary32, of_bits}
use lib.Ieee.Scale.{finite}
use lib.ListN.{length, take, set, length-set}
use lib.Seq.{take-suc-set}
use Rattle.search.specs.declared.Settings.{Settings}
use Rattle.search.specs.Answers.{index_number}
use Rattle.words.specs.Words.{little_endian}
use Rattle.refusals.specs.declared.Refusal.TheVariants as refused
use Rattle.feed.specs.declared.Field.{Field}
use Rattle.feed.specs.declared.Field.TheVariants.{
  SettingsCount,
  Level,
  Threshold,
  Second,
  Distance,
  WindowCount,
}
use Rattle.feed.specs.declared.Stage.TheVariants.{Number, Index}
use Rattle.feed.specs.declared.State.{State}
use Rattle.feed.specs.declared.Said.TheVariants.{Nothing}
use Rattle.feed.specs.Parts.{Stop, Line, next_number, need}
use Rattle.feed.specs.Lines.{indices_lines, lines_of}
use Rattle.feed.specs.Machine.{wanted_of, provided, index_stage, index_fed, fed_of}
use Rattle.feed.proofs.Saying.{Tells, After, longer, after_says, after_provided, tells_part, tells_number}
use Rattle.feed.proofs.Windows.{tells_samples}

-- ---- the indices

-- the k-th of w indices is wanted
abbrev wanting : Settings → ℕ → ℕ → List ℕ → State
wanting t w k xs = record { stage = Index; settings = t; windows = w; done = k; indices = xs }

-- k of w indices came
abbrev came : Settings → ℕ → ℕ → List ℕ → State
came t w k xs = record { stage = index_stage k w; settings = t; windows = w; done = k; indices = xs }

module _ (t : Settings) where
  -- one index, then those behind it
  tells_index : (n w k : ℕ) (xs : List ℕ) (f : ℕ → Stop → List ℕ → List Line) → k < 64
      → ((index : ℕ) → Tells n (came t w (k + 1) (set xs k index)) (f index))
      → Tells (suc n) (wanting t w k xs)
      (λ stop input. next_number 8 input (λ index rest. need (eqb (index_number index) 0) 6 (f index stop rest)))
  unfolding wanted_of fed_of next_number index_fed provided
  tells_index n w k xs f h p =
      tells_part n 8 (wanting t w k xs) (λ part. index_fed (wanting t w k xs) (little_endian part))
      (λ stop part rest. need (eqb (index_number (little_endian part)) 0) 6 (f (little_endian part) stop rest))
      refl (omega arith) (λ part. refl)
      (λ part e. taken part (little_endian part))
    where
      taken : (part : List ℕ) (index : ℕ) → After n part (index_fed (wanting t w k xs) index)
          (λ stop rest. need (eqb (index_number index) 0) 6 (f index stop rest))
      taken part index = simp (lt-ltb k 64 h) (after_provided (eqb (index_number index) 0) refused.Index (λ good. after_says Nothing part (p index)))

  -- m indices from the k-th on
  pub tells_indices : (m w k : ℕ) (xs : List ℕ) → k + m ≡ w → w ≤ 64 → length xs ≡ 64
      → Tells (m + suc (suc w)) (came t w k xs) (λ stop input. indices_lines stop t m (take k xs) input)
  unfolding indices_lines index_stage
  tells_indices zero w k xs e l size =
      let all : k ≡ w = omega arith in
      rw (all, zero-add (suc (suc w))) (simp (le-ltb w w (omega arith)) (tells_samples t w w xs l size))
  tells_indices (suc m) w k xs e l size =
      let below : k < length xs = omega arith in
      simp (lt-ltb k w (omega arith), suc-add m (suc (suc w)))
      (tells_index (m + suc (suc w)) w k xs
      (λ index stop rest. indices_lines stop t m (take k xs ++ (index ∷ [])) rest)
      (omega arith)
      (λ index.
      rw (add-one k, ← take-suc-set xs k index below)
      (tells_indices m w (suc k) (set xs k index) (omega arith) l (length-set xs k index ∙ size))))

-- ---- what is said from each number on, as the listing has it

abbrev from_windows : Stop → Settings → List ℕ → List Line
from_windows stop t input =
    next_number 4 input (λ windows rest. need (leb windows 64) 10 (indices_lines stop t windows [] rest))

abbrev from_distance : Stop → ℕ → Float → Float → List ℕ → List Line
from_distance stop level x y input =
    next_number 4 input (λ distance rest.
    from_windows stop (record { level = level; threshold = x; second = y; distance = distance }) rest)

abbrev from_second : Stop → ℕ → Float → List ℕ → List Line
from_second stop level x input =
    next_number 4 input (λ bits rest.
    need (finite (of_bits binary32 bits)) 5 (from_distance stop level x (of_bits binary32 bits) rest))

abbrev from_threshold : Stop → ℕ → List ℕ → List Line
from_threshold stop level input =
    next_number 4 input (λ bits rest. need (finite (of_bits binary32 bits)) 5 (from_second stop level (of_bits binary32 bits) rest))

abbrev from_level : Stop → List ℕ → List Line
from_level stop input = next_number 4 input (λ level rest. need (leb level 2) 4 (from_threshold stop level rest))

-- ---- and that it is said

-- the state before a number, where nothing else came
abbrev before : Field → Settings → List ℕ → State
before f t xs = record { stage = Number f; settings = t; windows = 0; done = 0; indices = xs }

module _ (xs : List ℕ) (size : length xs ≡ 64) where
  tells_windows : (t : Settings) → Tells 131 (before WindowCount t xs) (λ stop input. from_windows stop t input)
  tells_windows t =
      tells_number 130 WindowCount t 0 0 xs
      (λ stop windows rest. need (leb windows 64) 10 (indices_lines stop t windows [] rest))
      (λ windows part.
      after_provided (leb windows 64) refused.Malformed
      (λ few.
      let most : windows ≤ 64 = leb-true windows 64 few in
      after_says Nothing part (longer (omega arith) (tells_indices t windows windows 0 xs (zero-add windows) most size))))

  tells_distance : (t : Settings)
      → Tells 132 (before Distance t xs) (λ stop input. from_distance stop t.level t.threshold t.second input)
  tells_distance t =
      tells_number 131 Distance t 0 0 xs
      (λ stop distance rest.
      from_windows stop (record { level = t.level; threshold = t.threshold; second = t.second; distance = distance }) rest)
      (λ distance part. after_says Nothing part (tells_windows _))

  tells_second : (t : Settings)
      → Tells 133 (before Second t xs) (λ stop input. from_second stop t.level t.threshold input)
  tells_second t =
      tells_number 132 Second t 0 0 xs
      (λ stop bits rest.
      need (finite (of_bits binary32 bits)) 5 (from_distance stop t.level t.threshold (of_bits binary32 bits) rest))
      (λ bits part. after_provided (finite (of_bits binary32 bits)) refused.Threshold (λ good. after_says Nothing part (tells_distance _)))

  tells_threshold : (t : Settings) → Tells 134 (before Threshold t xs) (λ stop input. from_threshold stop t.level input)
  tells_threshold t =
      tells_number 133 Threshold t 0 0 xs
      (λ stop bits rest. need (finite (of_bits binary32 bits)) 5 (from_second stop t.level (of_bits binary32 bits) rest))
      (λ bits part. after_provided (finite (of_bits binary32 bits)) refused.Threshold (λ good. after_says Nothing part (tells_second _)))

  tells_level : (t : Settings) → Tells 135 (before Level t xs) (λ stop input. from_level stop input)
  tells_level t =
      tells_number 134 Level t 0 0 xs
      (λ stop level rest. need (leb level 2) 4 (from_threshold stop level rest))
      (λ level part. after_provided (leb level 2) refused.Level (λ good. after_says Nothing part (tells_threshold _)))

  pub tells_all : (t : Settings) → Tells 136 (before SettingsCount t xs) (λ stop input. lines_of stop input)
  unfolding lines_of
  tells_all t =
      tells_number 135 SettingsCount t 0 0 xs
      (λ stop count rest. need (eqb count 4) 10 (from_level stop rest))
      (λ count part. after_provided (eqb count 4) refused.Malformed (λ good. after_says Nothing part (tells_level t)))
