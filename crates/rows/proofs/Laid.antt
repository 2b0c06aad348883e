-- What stands in lent memory once an answer is laid out.
--     numbered        ten numbers, and one behind them
--     result_done     what is answered and written where the lengths are right
-- Assumes nothing.
use mathlib.Core.Path.{◌≡◌, ap, ◌∙◌}
use mathlib.Core.Bool.{true}
use mathlib.Core.Logic.{◌⊎◌, inl, inr}
use mathlib.Core.List.{List, [], ◌∷◌, ◌++◌}
use Prim.Native.Nat.{ℕ, ◌≤◌, ◌<◌}
use native.Mathlib.Omega.{arith}
use lib.ListN.{length, get_or, take, drop, set, drop_of_length-le}
use lib.Seq.{drop-cons, set_at}
use lib.Ieee.{Float}
use borrow.Author.Tests.{eq-eqb}
use Rattle.annex10.specs.Length.{message_length}
use Rattle.annex10.proofs.Length.{short_length, long_length}
use Rattle.search.specs.declared.Answer.{Answer}
use Rattle.rows.specs.Rows.{result_of, numbers_of, result_into}

pub numbered : (ten to : List ℕ) (last : ℕ) → length ten ≡ 10 → length to ≡ 11 → set (ten ++ drop 10 to) 10 last ≡ ten ++ (last ∷ [])
numbered ten to last e l =
    let one : 10 < length to = omega arith in
    let none : length to ≤ 11 = omega arith in
    rw (drop-cons to 10 0 one, drop_of_length-le to none) (set_at ten (get_or to 10 0) [] last 10 e)

module _ (m w : List ℕ) (x : List Float) {m' w' : List ℕ} {x' : List Float} where
  pub result_done : (a : Answer) (b : ℕ) {r : ℕ} → (b ≡ 7) ⊎ (b ≡ 14) → length m ≡ b → length w ≡ 11 → length x ≡ 2
      → (r, m', w', x') ≡ result_into a (m, w, x) → (m' ≡ take b a.message) × (w' ≡ result_of a) × (x' ≡ numbers_of a) × (r ≡ 0)
  unfolding result_into
  result_done a b k e f g h =
      let q : message_length (length m) ≡ true = whole k e in
      let t = rw (q, eq-eqb _ _ f, eq-eqb _ _ g) at h in
      (ap (λ p. p.1) t ∙ rw e, ap (λ p. p.2) t, ap (λ p. p.3) t, ap (λ p. p.0) t)
    where
      whole : {n b : ℕ} → (b ≡ 7) ⊎ (b ≡ 14) → n ≡ b → message_length n ≡ true
      whole (inl s) e = rw (e, s) short_length
      whole (inr s) e = rw (e, s) long_length
