-- Lists that are given by a function of the place, and loops that fill them.
--     length_tabulate, get_d_tabulate   how long it is, and what stands at a place
--     Done                             the invariant of a loop that stores from the front on
--     Where                            that of a loop that stores in another order
-- Assumes nothing.
use mathlib.Core.Path.{◌≡◌, refl, sym, ap, ◌∙◌, subst}
use mathlib.Core.List.{List}
use Prim.Native.Nat.{ℕ, zero, suc, ◌+◌, ◌≤◌, ◌<◌}
use native.Mathlib.Nat.{not-suc-le-zero, le_of_suc-le-suc, ne_of_lt, lt_of_lt_of_le, add-zero, add-suc, suc-add, zero-add}
use native.Mathlib.Decide.{ℕ_discrete}
use lib.ListN.{length, get_or, set, length-set}
use lib.Seq.{ext_get_or, get_or-set_same, get_or-set_other}
use borrow.Author.Count.{below_none, below_more}
use Rattle.lists.specs.From.{from, tabulate}

module _ {A : Type 0} where
  length_from : (f : ℕ → A) (k n : ℕ) → length (from f k n) ≡ n
  unfolding from
  length_from f k zero = refl
  length_from f k (suc n) = ap suc (length_from f _ n)

  get_d_from : (f : ℕ → A) (k n i : ℕ) (d : A) → i < n → get_or (from f k n) i d ≡ f (k + i)
  unfolding from
  get_d_from f k zero i d h = absurd (not-suc-le-zero h)
  get_d_from f k (suc n) zero d h = ap f (sym (add-zero k))
  get_d_from f k (suc n) (suc i) d h = get_d_from f (suc k) n i d (le_of_suc-le-suc h) ∙ ap f (suc-add k i ∙ sym (add-suc k i))

  pub length_tabulate : (n : ℕ) (f : ℕ → A) → length (tabulate n f) ≡ n
  unfolding tabulate
  length_tabulate n f = length_from f 0 n

  pub get_d_tabulate : (n : ℕ) (f : ℕ → A) (i : ℕ) (d : A) → i < n → get_or (tabulate n f) i d ≡ f i
  unfolding tabulate
  get_d_tabulate n f i d h = get_d_from f 0 n i d h ∙ ap f (zero-add i)

  -- a list of n elements that are those of f
  pub tabulate_is : (d : A) (f : ℕ → A) (n : ℕ) (xs : List A) → length xs ≡ n → ((k : ℕ) → k < n → get_or xs k d ≡ f k) → xs ≡ tabulate n f
  tabulate_is d f n xs e each =
      ext_get_or d xs (tabulate n f) (e ∙ sym (length_tabulate n f))
      (λ k l. let h : k < n = subst (λ (m : ℕ). k < m) e l in each k h ∙ sym (get_d_tabulate n f k d h))

  -- The first i elements of xs, which has n, are those of f: what a loop has done after i stores.
  pub record Done (d : A) (f : ℕ → A) (n : ℕ) (xs : List A) (i : ℕ) : Type 0 where
    pub size : length xs ≡ n
    pub each : (k : ℕ) → k < i → get_or xs k d ≡ f k

  pub done_none : (d : A) (f : ℕ → A) (n : ℕ) (xs : List A) → length xs ≡ n → Done d f n xs 0
  done_none d f n xs e = record { size = e; each = below_none (λ (k : ℕ). get_or xs k d ≡ f k) }

  pub done_more : (d : A) (f : ℕ → A) (n : ℕ) (xs : List A) (i : ℕ) (v : A) → i < n → Done d f n xs i → v ≡ f i
      → Done d f n (set xs i v) (i + 1)
  done_more d f n xs i v h r e =
      record {
        size = length-set xs i v ∙ r.size;
        each =
            below_more (λ (k : ℕ). get_or (set xs i v) k d ≡ f k) i
            (λ k l. get_or-set_other xs i k v d (ne_of_lt l) ∙ r.each k l)
            (get_or-set_same xs i v d (subst (λ (m : ℕ). i < m) (sym r.size) h) ∙ e);
      }

  pub done_all : (d : A) (f : ℕ → A) (n : ℕ) (xs : List A) (i : ℕ) → n ≤ i → Done d f n xs i → xs ≡ tabulate n f
  done_all d f n xs i le r = tabulate_is d f n xs r.size (λ k h. r.each k (lt_of_lt_of_le h le))

  -- a loop that copies a list element by element ends with that list
  pub copied : (d : A) (from to : List A) (n i : ℕ) → length from ≡ n → n ≤ i → Done d (λ (k : ℕ). get_or from k d) n to i → to ≡ from
  copied d from to n i e le r =
      done_all d (λ (k : ℕ). get_or from k d) n to i le r ∙ sym (tabulate_is d (λ (k : ℕ). get_or from k d) n from e (λ k h. refl))

  -- The elements of xs that P marks are those of f.
  pub record Where (d : A) (f : ℕ → A) (n : ℕ) (xs : List A) (P : ℕ → Type 0) : Type 0 where
    pub size : length xs ≡ n
    pub each : (k : ℕ) → k < n → P k → get_or xs k d ≡ f k

  -- a store at i marks i
  pub where_more : (d : A) (f : ℕ → A) (n : ℕ) (xs : List A) (P Q : ℕ → Type 0) (i : ℕ) (v : A) → i < n → v ≡ f i
      → ((k : ℕ) → k < n → Q k → (k ≡ i → ⊥) → P k) → Where d f n xs P → Where d f n (set xs i v) Q
  where_more d f n xs P Q i v h e step r =
      record {
        size = length-set xs i v ∙ r.size;
        each = λ k l q. elim (ℕ_discrete k i) [
          | yes same ↦ subst (λ (m : ℕ). get_or (set xs i v) m d ≡ f m) (sym same) (get_or-set_same xs i v d (subst (λ (m : ℕ). i < m) (sym r.size) h) ∙ e)
          | no other ↦ get_or-set_other xs i k v d other ∙ r.each k l (step k l q other)
        ];
      }

  pub where_all : (d : A) (f : ℕ → A) (n : ℕ) (xs : List A) (P : ℕ → Type 0) → ((k : ℕ) → k < n → P k) → Where d f n xs P → xs ≡ tabulate n f
  where_all d f n xs P all r = tabulate_is d f n xs r.size (λ k h. r.each k h (all k h))
