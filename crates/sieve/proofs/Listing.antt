-- Laws of lists of places.
--     among_kept     what one test keeps of what another keeps, where the first takes no more
--     onto_more      one more number over the front of a list
-- Assumes nothing.
use Rattle.std.proofs.Common.{◌≡◌, ℕ, zero, suc, ◌<◌, Bool, true, false, cond, List, [], ◌∷◌, ◌++◌, length, set, refl, ap, ◌∙◌, arith}
use Rattle.scan.specs.Sieve.{kept, onto}

-- ---- those of a list that a test takes

unfoldable pub among : (ℕ → Bool) → List ℕ → List ℕ
among g [] = []
among g (x ∷ xs) = cond (g x) (x ∷ among g xs) (among g xs)

pub among_snoc : (g : ℕ → Bool) (xs : List ℕ) (x : ℕ) → among g (xs ++ (x ∷ [])) ≡ cond (g x) (among g xs ++ (x ∷ [])) (among g xs)
unfolding among
among_snoc g [] x = refl
among_snoc g (y ∷ xs) x = step (g y) (g x) (among_snoc g xs x)
  where
    step : (s t : Bool) → among g (xs ++ (x ∷ [])) ≡ cond t (among g xs ++ (x ∷ [])) (among g xs)
        → cond s (y ∷ among g (xs ++ (x ∷ []))) (among g (xs ++ (x ∷ [])))
        ≡ cond t (cond s (y ∷ among g xs) (among g xs) ++ (x ∷ [])) (cond s (y ∷ among g xs) (among g xs))
    step true true e = ap (λ (l : List ℕ). y ∷ l) e
    step true false e = ap (λ (l : List ℕ). y ∷ l) e
    step false true e = e
    step false false e = e

pub among_kept : (f g : ℕ → Bool) → ((k : ℕ) → f k ≡ false → g k ≡ false) → (n : ℕ) → among g (kept f n) ≡ kept g n
unfolding kept among
among_kept f g h zero = refl
among_kept f g h (suc n) = step (f n) refl (among_kept f g h n)
  where
    step : (t : Bool) → f n ≡ t → among g (kept f n) ≡ kept g n
        → among g (cond t (kept f n ++ (n ∷ [])) (kept f n)) ≡ cond (g n) (kept g n ++ (n ∷ [])) (kept g n)
    step true q e = among_snoc g (kept f n) n ∙ ap (λ (l : List ℕ). cond (g n) (l ++ (n ∷ [])) l) e
    step false q e = e ∙ rw (h n q)

-- ---- over the front of a list

pub onto_none : (list : List ℕ) → list ≡ onto [] list
unfolding onto
onto_none list = refl

over_more : (ks list : List ℕ) (v : ℕ) → length ks < length list → set (onto ks list) (length ks) v ≡ onto (ks ++ (v ∷ [])) list
unfolding onto
over_more [] [] v h = absurd (omega arith)
over_more [] (x ∷ xs) v h = refl
over_more (k ∷ ks) [] v h = absurd (omega arith)
over_more (k ∷ ks) (x ∷ xs) v h = ap (λ (l : List ℕ). k ∷ l) (over_more ks xs v (omega arith))

pub onto_more : (ks list : List ℕ) (v n : ℕ) → length ks ≡ n → n < length list → set (onto ks list) n v ≡ onto (ks ++ (v ∷ [])) list
onto_more ks list v n e h = rw (← e) (over_more ks list v (omega arith))
