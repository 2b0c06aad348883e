-- The members of a list that is given by a function of the place.
--     from_append              a list in two pieces
--     member_of, number_of     what it holds are the values of the function, and no others
-- Assumes nothing.
use mathlib.Core.Path.{◌≡◌, sym, ap, ◌∙◌, subst}
use mathlib.Core.Logic.{◌⊎◌, inl, inr}
use mathlib.Core.List.Memᴰ
use mathlib.Core.List.{List, ◌∷◌, ◌++◌, Memᴰ}
use Prim.Native.Nat.{ℕ, zero, suc, ◌+◌, ◌<◌, suc-le-suc}
use native.Mathlib.Nat.{not-suc-le-zero, le_of_suc-le-suc, add-zero, add-suc, suc-add, zero-add, zero-lt-suc}
use Rattle.lists.specs.From.{from, tabulate}

module _ {A : Type 0} (f : ℕ → A) where
  pub from_append : (k m n : ℕ) → from f k (m + n) ≡ from f k m ++ from f (k + m) n
  unfolding from
  from_append k zero n = ap (λ (i : ℕ). from f k i) (zero-add n) ∙ ap (λ (i : ℕ). from f i n) (sym (add-zero k))
  from_append k (suc m) n =
      ap (λ (i : ℕ). from f k i) (suc-add m n)
      ∙ ap (λ (l : List A). f k ∷ l) (from_append (suc k) m n)
      ∙ ap (λ (i : ℕ). f k ∷ (from f (suc k) m ++ from f i n)) (suc-add k m ∙ sym (add-suc k m))

  -- a is number k of the n values
  pub record Numbered (n : ℕ) (a : A) : Type 0 where
    pub number : ℕ
    pub below : number < n
    pub is : f number ≡ a

  member_from : (s n k : ℕ) → k < n → Memᴰ (f (s + k)) (from f s n)
  unfolding from
  member_from s zero k h = absurd (not-suc-le-zero h)
  member_from s (suc n) zero h = Memᴰ.head (ap f (add-zero s))
  member_from s (suc n) (suc k) h =
      subst (λ (i : ℕ). Memᴰ (f i) (f s ∷ from f (suc s) n)) (suc-add s k ∙ sym (add-suc s k))
      (Memᴰ.tail (member_from (suc s) n k (le_of_suc-le-suc h)))

  pub member_of : (n k : ℕ) → k < n → Memᴰ (f k) (tabulate n f)
  unfolding tabulate
  member_of n k h = subst (λ (i : ℕ). Memᴰ (f i) (from f 0 n)) (zero-add k) (member_from 0 n k h)

  record Counted (s n : ℕ) (a : A) : Type 0 where
    number : ℕ
    below : number < n
    is : f (s + number) ≡ a

  number_from : (s n : ℕ) (a : A) → Memᴰ a (from f s n) → Counted s n a
  unfolding from
  number_from s zero a m = absurd (Memᴰ.not-nil m)
  number_from s (suc n) a m = go (number_from (suc s) n a) (Memᴰ.cases_cons m)
    where
      go : (Memᴰ a (from f (suc s) n) → Counted (suc s) n a) → (a ≡ f s) ⊎ Memᴰ a (from f (suc s) n) → Counted s (suc n) a
      go ih (inl e) = record { number = 0; below = zero-lt-suc n; is = ap f (add-zero s) ∙ sym e }
      go ih (inr t) =
          let c = ih t in
          record { number = suc c.number; below = suc-le-suc c.below; is = ap f (add-suc s c.number ∙ sym (suc-add s c.number)) ∙ c.is }

  pub number_of : (n : ℕ) (a : A) → Memᴰ a (tabulate n f) → Numbered n a
  unfolding tabulate
  number_of n a m =
      let c = number_from 0 n a m in
      record { number = c.number; below = c.below; is = ap f (sym (zero-add c.number)) ∙ c.is }
