-- A loop that counts k up to n and takes a step with the k-th value is a fold over the values.
--     turn     while k < n: the fold of what is left, from the state, is that of what is left after the turn, from the state after it
--     done     where nothing is left, the fold is the state
-- Assumes nothing.
use Prim.Native.Nat.{ℕ, suc, ◌+◌, ◌-◌, ◌<◌, ◌≤◌}
use mathlib.Core.List.{List, foldl}
use mathlib.Core.Path.{◌≡◌, ap}
use native.Mathlib.Numerals.{add-one}
use native.Mathlib.Omega.{arith}
use lib.ListN.{length, get_or, drop, drop_of_length-le}
use lib.Seq.{drop-cons}
use Rattle.lists.specs.From.{from}

module _ {S A : Type 0} (f : S → A → S) (at : ℕ → A) where
  at_left : (s : S) (k m m' : ℕ) → m ≡ suc m' → foldl f s (from at k m) ≡ foldl f (f s (at k)) (from at (suc k) m')
  unfolding from
  at_left s k m m' e = ap (λ (i : ℕ). foldl f s (from at k i)) e

  pub turn : (n k : ℕ) (s : S) → k < n → foldl f s (from at k (n - k)) ≡ foldl f (f s (at k)) (from at (k + 1) (n - (k + 1)))
  turn n k s h =
      rw (add-one k) (at_left s k (n - k) (n - suc k) (omega arith))

  pub done : (n k : ℕ) (s : S) → n ≤ k → foldl f s (from at k (n - k)) ≡ s
  unfolding from
  done n k s h = ap (λ (i : ℕ). foldl f s (from at k i)) zero_left where
    zero_left : n - k ≡ 0
    zero_left = omega arith

-- The same over the elements of a list.
module _ {S A : Type 0} (f : S → A → S) (d : A) where
  pub over : (l : List A) (i : ℕ) (s : S) → i < length l → foldl f s (drop i l) ≡ foldl f (f s (get_or l i d)) (drop (i + 1) l)
  over l i s h = rw (add-one i) (ap (foldl f s) (drop-cons l i d h))

  pub over_done : (l : List A) (i : ℕ) (s : S) → length l ≤ i → foldl f s (drop i l) ≡ s
  over_done l i s h = ap (foldl f s) (drop_of_length-le l h)
