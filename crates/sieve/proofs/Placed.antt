-- A list read by place through a tree, for tests that antt computes.
--     read_is     what is read stands at that place
-- Assumes nothing.
use Rattle.std.proofs.Common.{◌≡◌, ℕ, zero, suc, ◌+◌, ◌*◌, ◌/◌, ◌%◌, ◌^◌, ◌<◌, Bool, T, eqb, ◌⊎◌, List, [], ◌∷◌, length, get_or, sym, refl, ap, ◌∙◌, inl, inr, le_of_suc-le-suc, not-suc-le-zero, add-zero, add-suc, suc-add, zero-add, arith, eqb→eq}
use Rattle.lists.proofs.Tree.{Tree, grow, find, In, is_there}

-- each element behind its place, counted from k + 1
abbrev pub placed : ℕ → List ℕ → List ℕ
placed k [] = []
placed k (x ∷ xs) = (suc k * 2 ^ 16 + x) ∷ placed (suc k) xs

-- the element at place i, and whether it is there
unfoldable pub read : Tree → ℕ → ℕ
read t i = find t (suc i) % 2 ^ 16

unfoldable pub stands : Tree → ℕ → Bool
stands t i = eqb (find t (suc i) / 2 ^ 16) (suc i)

length_placed : (k : ℕ) (xs : List ℕ) → length (placed k xs) ≡ length xs
length_placed k [] = refl
length_placed k (x ∷ xs) = ap suc (length_placed (suc k) xs)

placed_at : (k : ℕ) (xs : List ℕ) (p : ℕ) → p < length xs → get_or (placed k xs) p 0 ≡ suc (k + p) * 2 ^ 16 + get_or xs p 0
placed_at k [] p h = absurd (not-suc-le-zero h)
placed_at k (x ∷ xs) zero h = rw (add-zero k)
placed_at k (x ∷ xs) (suc p) h = placed_at (suc k) xs p (le_of_suc-le-suc h) ∙ rw (suc-add k p, add-suc k p)

pub read_is : (d : ℕ) (xs : List ℕ) → ((i : ℕ) → i < length xs → get_or xs i 0 < 2 ^ 16) → (i : ℕ) → T (stands (grow d (placed 0 xs)).0 i)
    → (i < length xs) × (get_or xs i 0 ≡ read (grow d (placed 0 xs)).0 i)
unfolding stands read
read_is d xs small i t = go (find (grow d (placed 0 xs)).0 (suc i)) (eqb→eq _ _ t) (is_there d (placed 0 xs) (suc i))
  where
    go : (v : ℕ) → v / 2 ^ 16 ≡ suc i → (v ≡ 0) ⊎ In (placed 0 xs) v → (i < length xs) × (get_or xs i 0 ≡ v % 2 ^ 16)
    go v e (inl z) = absurd (omega arith)
    go v e (inr w) =
        let p = w.place in
        let l : p < length xs = omega (arith, w.inside, length_placed 0 xs) in
        let s : suc p * 2 ^ 16 + get_or xs p 0 ≡ v = sym (placed_at 0 xs p l ∙ rw (zero-add p)) ∙ w.stands in
        let q : p ≡ i = omega (arith, small p l) in
        rw (← q) (l, omega (arith, small p l))
