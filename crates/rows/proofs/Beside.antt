-- Rows of one width, one behind another.
--     length_rows, row_at     how long they are together, and which row stands at a place
--     Beside                  the invariant of a loop that writes row after row into lent memory
-- Assumes nothing.
use mathlib.Core.Path.{◌≡◌, sym, ap, ap₂, ◌∙◌}
use mathlib.Core.List.{List, ◌++◌}
use Prim.Native.Nat.{ℕ, zero, suc, ◌+◌, ◌*◌, ◌≤◌, ◌<◌}
use native.Mathlib.Nat.{mul-zero, mul-suc, mul-le-mul_left}
use native.Mathlib.Decide.{ℕ_discrete}
use native.Mathlib.Numerals.{add-one}
use native.Mathlib.Omega.{arith}
use lib.ListN.{length, take, drop, length-append, length-drop}
use lib.Seq.{length-take-le, take_all, take_at, drop_at, take-append-le, drop-append-le, take-append-add}
use Rattle.rows.specs.Rows.{rows_of, with_row}

-- row k of n ends within them
ends : (w n k : ℕ) → k < n → w * k + w ≤ w * n
ends w n k h = rw (← mul-suc w k) (mul-le-mul_left w h)

module _ {A : Type 0} where
  pub length_rows : (w : ℕ) (f : ℕ → List A) (n : ℕ) → ((i : ℕ) → i < n → length (f i) ≡ w) → length (rows_of f n) ≡ w * n
  unfolding rows_of
  length_rows w f zero each = sym (mul-zero w)
  length_rows w f (suc n) each =
      length-append (rows_of f n) (f n)
      ∙ ap₂ (λ (a b : ℕ). a + b) (length_rows w f n (λ i h. each i (omega arith))) (each n (omega arith))
      ∙ sym (mul-suc w n)

  pub row_at : (w : ℕ) (f : ℕ → List A) (n k : ℕ) → ((i : ℕ) → i < n → length (f i) ≡ w) → k < n → take w (drop (w * k) (rows_of f n)) ≡ f k
  unfolding rows_of
  row_at w f zero k each h = absurd (omega arith)
  row_at w f (suc n) k each h =
      let long : length (rows_of f n) ≡ w * n = length_rows w f n (λ i l. each i (omega arith)) in
      elim (ℕ_discrete k n) [
        | yes same ↦ rw (same, drop_at (rows_of f n) (f n) (w * n) long) (take_all w (f n) (omega (arith, each n (omega arith))))
        | no other ↦
            let e = ends w n k (omega arith) in
            rw (drop-append-le (w * k) (rows_of f n) (f n) (omega arith), take-append-le w (drop (w * k) (rows_of f n)) (f n) (simp length-drop (omega arith)))
            (row_at w f n k (λ i l. each i (omega arith)) (omega arith))
      ]

  -- The first k rows of xs, which has room for n, are those of f: what a loop has done after k rows.
  pub record Beside (w : ℕ) (f : ℕ → List A) (n : ℕ) (xs : List A) (k : ℕ) : Type 0 where
    pub size : length xs ≡ w * n
    pub rows : take (w * k) xs ≡ rows_of f k

  pub beside_none : (w n : ℕ) (f : ℕ → List A) (xs : List A) → length xs ≡ w * n → Beside w f n xs 0
  unfolding rows_of
  beside_none w n f xs e = record { size = e; rows = rw (mul-zero w) }

  pub beside_more : (w n k : ℕ) (f : ℕ → List A) (xs ys : List A) → k < n → Beside w f n xs k → ys ≡ f k → length ys ≡ w
      → Beside w f n (with_row w k ys xs) (k + 1)
  unfolding rows_of
  beside_more w n k f xs ys h b e l =
      let s = b.size in
      let g = ends w n k h in
      let p : length (take (w * k) xs) ≡ w * k = length-take-le (w * k) xs (omega arith) in
      let z = drop w (drop (w * k) xs) in
      record {
        size = simp (length-append, length-drop, p, l) (omega arith);
        rows =
            rw (add-one k, mul-suc w k)
            (ap (λ (m : ℕ). take (m + w) (take (w * k) xs ++ (ys ++ z))) (sym p)
            ∙ take-append-add (take (w * k) xs) (ys ++ z) w
            ∙ ap₂ (λ (a c : List A). a ++ c) b.rows (take_at ys z w l ∙ e));
      }

  pub beside_all : (w n : ℕ) (f : ℕ → List A) (xs : List A) → Beside w f n xs n → xs ≡ rows_of f n
  beside_all w n f xs b = let s = b.size in sym (take_all (w * n) xs (omega arith)) ∙ b.rows
