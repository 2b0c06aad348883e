-- What is said of an input that cannot be read to its end, beside what is said where it ends there.
-- Assumes nothing.
use mathlib.Core.Path.{refl, ap}
use mathlib.Core.Bool.{Bool, true, false, cond}
use mathlib.Core.List.{List, [], ◌∷◌, ◌++◌}
use mathlib.Core.Logic.{inl, inr}
use Prim.Native.Nat.{ℕ, zero, suc}
use lib.Dec.{leb}
use lib.ListN.{length, take, drop}
use Rattle.search.specs.declared.Settings.{Settings}
use Rattle.words.specs.Words.{little_endian}
use Rattle.feed.specs.Parts.{end, failure, Line, head, window, refusal, next_bytes, next_number, need}
use Rattle.feed.specs.Lines.{ending, window_lines, samples_lines, indices_lines, lines_of}
use Rattle.feed.specs.Statement.{OrRefused}

alike : (n : ℕ) (input : List ℕ) (h k : List ℕ → List ℕ → List Line) → ((part rest : List ℕ) → OrRefused (h part rest) (k part rest))
    → OrRefused (next_bytes n input h) (next_bytes n input k)
unfolding next_bytes
alike n input h k p = go (leb n (length input)) where
  go : (b : Bool) → OrRefused
      (cond b (h (take n input) (drop n input)) (refusal 10 ∷ []))
      (cond b (k (take n input) (drop n input)) (refusal 10 ∷ []))
  go true = p (take n input) (drop n input)
  go false = inl refl

alike_number : (n : ℕ) (input : List ℕ) (h k : ℕ → List ℕ → List Line) → ((x : ℕ) (rest : List ℕ) → OrRefused (h x rest) (k x rest))
    → OrRefused (next_number n input h) (next_number n input k)
unfolding next_number
alike_number n input h k p = alike n input _ _ (λ part rest. p (little_endian part) rest)

alike_need : (t : Bool) (number : ℕ) {a b : List Line} → OrRefused a b → OrRefused (need t number a) (need t number b)
unfolding need
alike_need true number p = p
alike_need false number p = inl refl

alike_line : (line : Line) {a b : List Line} → OrRefused a b → OrRefused (line ∷ a) (line ∷ b)
alike_line line (inl e) = inl (ap (λ (x : List Line). line ∷ x) e)
alike_line line (inr e) = inr (ap (λ (x : List Line). line ∷ x) e)

alike_end : (input : List ℕ) → OrRefused (ending failure input) (ending end input)
unfolding ending
alike_end [] = inr refl
alike_end (b ∷ bs) = inl refl

alike_windows : (s : Settings) (k : ℕ) (indices input : List ℕ)
    → OrRefused (window_lines failure s k indices input) (window_lines end s k indices input)
unfolding window_lines
alike_windows s k [] input = alike_end input
alike_windows s k (index ∷ indices) input =
    alike 9240 input _ _
    (λ part rest.
    alike_line (window k s index part) (alike_windows s (suc k) indices rest))

alike_samples : (s : Settings) (indices input : List ℕ)
    → OrRefused (samples_lines failure s indices input) (samples_lines end s indices input)
unfolding samples_lines
alike_samples s indices input =
    alike_number 4 input _ _
    (λ count rest.
    alike_need _ _ (alike_line (head (length indices)) (alike_windows s 0 indices rest)))

alike_indices : (s : Settings) (n : ℕ) (indices input : List ℕ)
    → OrRefused (indices_lines failure s n indices input) (indices_lines end s n indices input)
unfolding indices_lines
alike_indices s zero indices input = alike_samples s indices input
alike_indices s (suc n) indices input =
    alike_number 8 input _ _
    (λ index rest. alike_need _ _ (alike_indices s n (indices ++ (index ∷ [])) rest))

pub broken : (input : List ℕ) → OrRefused (lines_of failure input) (lines_of end input)
unfolding lines_of
broken input =
    alike_number 4 input _ _ (λ count rest. alike_need _ _
    (alike_number 4 rest _ _ (λ level rest. alike_need _ _
    (alike_number 4 rest _ _ (λ bits rest. alike_need _ _
    (alike_number 4 rest _ _ (λ bits rest. alike_need _ _
    (alike_number 4 rest _ _ (λ distance rest.
    alike_number 4 rest _ _ (λ windows rest. alike_need _ _ (alike_indices _ windows [] rest)))))))))))
