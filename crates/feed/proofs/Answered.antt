-- Of a window is said what its decodes answer: what the checks let pass they do not refuse, and no message of theirs is refused as a line.
-- Assumes nothing.
use mathlib.Core.Path.{◌≡◌, refl}
use mathlib.Core.Bool.{Bool, true, false, cond}
use mathlib.Core.List.{List, [], ◌∷◌, ◌++◌}
use mathlib.Core.Option.{Option, none, some}
use Prim.Native.Nat.{ℕ, zero, suc, ◌≤◌}
use native.Mathlib.Omega.{arith}
use borrow.Author.Tests.{leb-true, eqb-true}
use lib.Dec.{leb}
use lib.Ieee.{Float, binary32, of_bits}
use lib.Ieee.Scale.{finite}
use lib.ListN.{length, take, drop}
use lib.Seq.{length-take-le}
use Rattle.lists.specs.From.{tabulate}
use Rattle.lists.proofs.Table.{length_tabulate}
use Rattle.search.specs.declared.Settings.{Settings}
use Rattle.search.specs.declared.Candidate.{Candidate}
use Rattle.search.specs.Choice.{best}
use Rattle.search.specs.Kinds.{Kind}
use Rattle.search.specs.Seen.{seen}
use Rattle.search.specs.Answers.{window_number, settings_number, index_number, answered as found, answer_of, decode_of}
use Rattle.words.specs.Words.{little_endian, float_at}
use Rattle.listing.proofs.Determines.{line_determines}
use Rattle.feed.specs.Parts.{Stop, end, failure, Line, refusal, next_bytes, next_number, need}
use Rattle.feed.specs.Lines.{ending, window_lines, samples_lines, indices_lines, lines_of}
use Rattle.feed.specs.Statement.{NotRefused, Every}

abbrev All : List Line → Type 0
All lines = Every NotRefused lines

all_bytes : (n : ℕ) (input : List ℕ) (h : List ℕ → List ℕ → List Line)
    → ((part rest : List ℕ) → length part ≡ n → All (h part rest)) → All (next_bytes n input h)
unfolding next_bytes
all_bytes n input h p = go (leb n (length input)) refl where
  go : (b : Bool) → leb n (length input) ≡ b → All (cond b (h (take n input) (drop n input)) (refusal 10 ∷ []))
  go true e = p (take n input) (drop n input) (length-take-le n input (leb-true n (length input) e))
  go false e = (tt, tt)

all_number : (n : ℕ) (input : List ℕ) (h : ℕ → List ℕ → List Line) → ((x : ℕ) (rest : List ℕ) → All (h x rest))
    → All (next_number n input h)
unfolding next_number
all_number n input h p = all_bytes n input (λ part rest. h (little_endian part) rest) (λ part rest e. p (little_endian part) rest)

all_need : (t : Bool) (number : ℕ) (lines : List Line) → (t ≡ true → All lines) → All (need t number lines)
unfolding need
all_need true number lines p = p refl
all_need false number lines p = (tt, tt)

all_end : (stop : Stop) (input : List ℕ) → All (ending stop input)
unfolding ending
all_end end [] = tt
all_end failure [] = (tt, tt)
all_end end (b ∷ bs) = (tt, tt)
all_end failure (b ∷ bs) = (tt, tt)

number_of : (kind : Kind) (samples : List Float) (index : ℕ) (o : Option Candidate) → (found kind samples index o).number ≤ 1
unfolding answer_of
number_of kind samples index none = omega arith
number_of kind samples index (some c) = omega arith

not_refused : (part : List ℕ) (s : Settings) (index : ℕ) → settings_number s ≡ 0 → index_number index ≡ 0
    → (kind : Kind) → (decode_of kind (tabulate 2310 (float_at part)) s index).number ≤ 1
unfolding decode_of window_number
not_refused part s index a b kind =
    let samples = tabulate 2310 (float_at part) in
    simp (length_tabulate 2310 (float_at part), a, b) (number_of kind samples index (best kind s (seen kind samples)))

-- every index of a list is taken
abbrev Taken : List ℕ → Type 0
Taken [] = Unit {0}
Taken (index ∷ indices) = (index_number index ≡ 0) × Taken indices

taken_more : (indices : List ℕ) (index : ℕ) → Taken indices → index_number index ≡ 0 → Taken (indices ++ (index ∷ []))
taken_more [] index t e = (e, tt)
taken_more (i ∷ is) index t e = (t.0, taken_more is index t.1 e)

module _ (stop : Stop) (s : Settings) (good : settings_number s ≡ 0) where
  all_windows : (k : ℕ) (indices input : List ℕ) → Taken indices → All (window_lines stop s k indices input)
  unfolding window_lines
  all_windows k [] input t = all_end stop input
  all_windows k (index ∷ indices) input t =
      all_bytes 9240 input _
      (λ part rest e.
      let samples = tabulate 2310 (float_at part) in
      ((e, not_refused part s index good t.0, λ kind. line_determines.own kind samples s index), all_windows (suc k) indices rest t.1))

  all_samples : (indices input : List ℕ) → Taken indices → All (samples_lines stop s indices input)
  unfolding samples_lines
  all_samples indices input t =
      all_number 4 input _
      (λ count rest. all_need _ _ _ (λ e. (tt, all_windows 0 indices rest t)))

  all_indices : (n : ℕ) (indices input : List ℕ) → Taken indices → All (indices_lines stop s n indices input)
  unfolding indices_lines
  all_indices zero indices input t = all_samples indices input t
  all_indices (suc n) indices input t =
      all_number 8 input _
      (λ index rest.
      all_need _ _ _
      (λ e. all_indices n (indices ++ (index ∷ [])) rest (taken_more indices index t (eqb-true (index_number index) 0 e))))

-- the checks of a listing are those of the settings
settings_good : (s : Settings) → leb s.level 2 ≡ true → finite s.threshold ≡ true → finite s.second ≡ true
    → settings_number s ≡ 0
unfolding settings_number
settings_good s a b c = simp (a, b, c)

pub answered : (stop : Stop) (input : List ℕ) → Every NotRefused (lines_of stop input)
unfolding lines_of
answered stop input =
    all_number 4 input _ (λ count rest. all_need _ _ _ (λ four.
    all_number 4 rest _ (λ level rest. all_need _ _ _ (λ a.
    all_number 4 rest _ (λ first rest. all_need _ _ _ (λ b.
    all_number 4 rest _ (λ second rest. all_need _ _ _ (λ c.
    all_number 4 rest _ (λ distance rest.
    all_number 4 rest _ (λ windows rest. all_need _ _ _ (λ few.
    all_indices stop _
    (settings_good
    (record { level = level; threshold = of_bits binary32 first; second = of_bits binary32 second; distance = distance }) a b c)
    windows [] rest tt)))))))))))
