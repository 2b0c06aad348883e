-- What is said from the sample count on: the first line, the windows' lines, the end.
-- Assumes nothing.
use mathlib.Core.Path.{◌≡◌, refl}
use mathlib.Core.List.{List, [], ◌∷◌}
use Prim.Native.Nat.{ℕ, zero, suc, ◌+◌, ◌*◌, ◌≤◌, ◌<◌, zero-le}
use native.Mathlib.Nat.{zero-add, not-suc-le-zero}
use native.Mathlib.Numerals.{add-one}
use native.Mathlib.Omega.{arith}
use borrow.Author.Tests.{lt-ltb, le-ltb, le-leb}
use lib.Dec.{eqb}
use lib.ListN.{length, get_or, take, drop}
use lib.Seq.{drop-cons, length-take-le}
use Rattle.search.specs.declared.Settings.{Settings}
use Rattle.refusals.specs.declared.Refusal.TheVariants.{Malformed}
use Rattle.feed.specs.declared.Field.TheVariants.{SampleCount}
use Rattle.feed.specs.declared.Stage.TheVariants.{Number, Samples, End}
use Rattle.feed.specs.declared.State.{State}
use Rattle.feed.specs.declared.Said.TheVariants.{Nothing, Head, Window}
use Rattle.feed.specs.Parts.{Stop, end, failure, Line, head, window, next_bytes, need}
use Rattle.feed.specs.Lines.{ending, window_lines, samples_lines}
use Rattle.feed.specs.Machine.{wanted_of, provided, sized, samples_stage, shot_of, samples_fed, fed_of, failed_of}
use Rattle.feed.specs.Run.{read_fed, said_of}
use Rattle.feed.proofs.Saying.{Tells, tells_over, after_says, after_refuses, after_provided, tells_part, tells_number}

-- k of w windows came
abbrev came : Settings → ℕ → ℕ → List ℕ → State
came t w k xs = record { stage = samples_stage k w; settings = t; windows = w; done = k; indices = xs }

-- the k-th of w windows is wanted, and all w came
abbrev wanting : Settings → ℕ → ℕ → List ℕ → State
wanting t w k xs = record { stage = Samples; settings = t; windows = w; done = k; indices = xs }

abbrev ended : Settings → ℕ → ℕ → List ℕ → State
ended t w k xs = record { stage = End; settings = t; windows = w; done = k; indices = xs }

module _ (t : Settings) where
  -- the end of the input: one byte more is wanted, and none may come
  at_end : (w k : ℕ) (xs : List ℕ) (steps : ℕ) (stop : Stop) (input : List ℕ)
      → said_of (suc steps) stop (ended t w k xs) input ≡ ending stop input
  unfolding said_of read_fed wanted_of fed_of failed_of sized provided ending
  at_end w k xs steps end [] = (after_says Nothing [] (tells_over 0)).so steps end [] zero-le
  at_end w k xs steps failure [] = (after_refuses 0 Malformed []).so steps failure [] zero-le
  at_end w k xs steps stop (b ∷ bs) =
      simp (le-leb 1 (suc (length bs)) (omega arith)) ((after_refuses 0 Malformed (b ∷ [])).so steps stop bs zero-le)

  tells_end : (w k : ℕ) (xs : List ℕ) → Tells 1 (ended t w k xs) (λ stop input. ending stop input)
  tells_end w k xs = record { so = ends } where
    ends : (steps : ℕ) (stop : Stop) (input : List ℕ) → 1 ≤ steps → said_of steps stop (ended t w k xs) input ≡ ending stop input
    ends zero stop input l = absurd (not-suc-le-zero l)
    ends (suc steps) stop input l = at_end w k xs steps stop input

  -- one window, then those behind it
  tells_row : (n w k : ℕ) (xs : List ℕ) (f : Stop → List ℕ → List Line) → k < 64 → Tells n (came t w (k + 1) xs) f
      → Tells (suc n) (wanting t w k xs)
      (λ stop input. next_bytes 9240 input (λ part rest. window k t (get_or xs k 0) part ∷ f stop rest))
  unfolding wanted_of fed_of samples_fed provided
  tells_row n w k xs f h p =
      tells_part n 9240 (wanting t w k xs) (λ part. samples_fed (wanting t w k xs))
      (λ stop part rest. window k t (get_or xs k 0) part ∷ f stop rest)
      refl (omega arith) (λ part. refl)
      (λ part e. simp (lt-ltb k 64 h) (after_says (Window (shot_of (wanting t w k xs))) part p))

  -- m windows from the k-th on
  pub tells_rows : (m w k : ℕ) (xs : List ℕ) → k + m ≡ w → w ≤ 64 → length xs ≡ 64
      → Tells (suc m) (came t w k xs) (λ stop input. window_lines stop t k (take m (drop k xs)) input)
  unfolding window_lines samples_stage
  tells_rows zero w k xs e l size = simp (le-ltb k w (omega arith)) (tells_end w k xs)
  tells_rows (suc m) w k xs e l size =
      let below : k < length xs = omega arith in
      simp (lt-ltb k w (omega arith), drop-cons xs k 0 below)
      (tells_row (suc m) w k xs (λ stop rest. window_lines stop t (suc k) (take m (drop (suc k) xs)) rest) (omega arith)
      (rw (add-one k) (tells_rows m w (suc k) xs (omega arith) l size)))

-- the sample count, the first line, and all windows
pub tells_samples : (t : Settings) (w k : ℕ) (xs : List ℕ) → w ≤ 64 → length xs ≡ 64
    → Tells (suc (suc w))
    (record { stage = Number SampleCount; settings = t; windows = w; done = k; indices = xs })
    (λ stop input. samples_lines stop t (take w xs) input)
unfolding samples_lines
tells_samples t w k xs l size =
    let enough : w ≤ length xs = omega arith in
    simp (length-take-le w xs enough)
    (tells_number (suc w) SampleCount t w k xs
    (λ stop count rest. need (eqb count (2310 * w)) 10 (head w ∷ window_lines stop t 0 (take w xs) rest))
    (λ count part.
    after_provided (eqb count (2310 * w)) Malformed
    (λ same. after_says (Head w) part (tells_rows t w w 0 xs (zero-add w) l size))))
