-- At most one choice of at most two positions clears the remainder of a 14-byte message: the 1 + 112 + 6,216 patterns have different
-- remainders. One computed test: each pair of positions is found by its remainder in a search tree of all pairs, no single position
-- and no zero is. What is found by a function differs.
--     apart_14, apart_7     all patterns of 14 bytes, and of 7, have different remainders
-- Assumes nothing.
use mathlib.Core.Path.{◌≡◌, refl, sym, ap, ap₂, ◌∙◌}
use mathlib.Core.Bool.{Bool, cond}
use mathlib.Core.List.{List, [], ◌∷◌, ◌++◌}
use Prim.Native.Nat.{ℕ, zero, suc, ◌+◌, ◌*◌, ◌^◌, ◌<◌}
use native.Mathlib.Omega.{arith}
use lib.Dec.{T, eqb, ltb, eqb→eq, ltb→lt}
use lib.ListN.{get_or}
use lib.Bits.{bit_xor, xor_self}
use Rattle.lists.proofs.Test.{both, both_left, both_right, all_below, below}
use Rattle.lists.proofs.Tree.{Tree, grow, find}
use Rattle.annex10.specs.declared.Repairs.{Repairs}
use Rattle.annex10.specs.declared.Repairs.TheVariants.{None, One, Two}
use Rattle.annex10.specs.Repair.{Proper, pattern, Apart}
use Rattle.annex10.proofs.Singles.{singles_from, singles, S, single_is, two_is}
use Rattle.annex10.proofs.Repairing.{pattern_two, pattern_none}
use Rattle.annex10.proofs.Shorter.{shorter}

-- a remainder in front of its two positions
row : ℕ → ℕ → ℕ → ℕ
row r j k = r * 2 ^ 16 + j * 256 + k

-- the rows of the position j, of remainder s, with each later one
rows_with : ℕ → ℕ → ℕ → List ℕ → List ℕ
rows_with j s k [] = []
rows_with j s k (t ∷ ts) = row (bit_xor s t) j k ∷ rows_with j s (suc k) ts

rows_from : ℕ → List ℕ → List ℕ
rows_from j [] = []
rows_from j (s ∷ ss) = rows_with j s (suc j) ss ++ rows_from (suc j) ss

-- two sorted lists as one; n is at least as many as both have
merge : ℕ → List ℕ → List ℕ → List ℕ
merge zero xs ys = []
merge (suc n) [] ys = ys
merge (suc n) (x ∷ xs) [] = x ∷ xs
merge (suc n) (x ∷ xs) (y ∷ ys) = cond (ltb x y) (x ∷ merge n xs (y ∷ ys)) (y ∷ merge n (x ∷ xs) ys)

-- the first 2^d elements sorted, and the rest
sort_first : ℕ → List ℕ → List ℕ × List ℕ
sort_first zero [] = ([], [])
sort_first zero (x ∷ xs) = (x ∷ [], xs)
sort_first (suc d) xs =
    let a = sort_first d xs in
    let b = sort_first d a.1 in
    (merge (2 ^ suc d) a.0 b.0, b.1)

sorted : List ℕ
sorted = (sort_first 13 (rows_from 0 singles)).0

tree : Tree
tree = (grow 13 sorted).0

-- ---- the test, of the single remainders and the tree

single_test : List ℕ → Tree → ℕ → Bool
single_test ss t j = both (ltb 0 (get_or ss j 0)) (eqb (find t (get_or ss j 0)) 0)

pair_test : List ℕ → Tree → ℕ → ℕ → Bool
pair_test ss t k j = let r = bit_xor (get_or ss j 0) (get_or ss k 0) in eqb (find t r) (row r j k)

rule : List ℕ → Tree → Bool
rule ss t =
    both (eqb (find t 0) 0) (both (all_below 112 (single_test ss t)) (all_below 112 (λ k. all_below k (pair_test ss t k))))

holds : T (rule singles tree)
unfolding rule single_test pair_test tree grow sorted sort_first merge rows_from rows_with row singles singles_from
holds = tt

-- ---- what it shows

zero_found : find tree 0 ≡ 0
unfolding rule
zero_found =
    eqb→eq (find tree 0) 0
    (both_left (eqb (find tree 0) 0) (both (all_below 112 (single_test singles tree)) (all_below 112 (λ k. all_below k (pair_test singles tree k)))) holds)

rest : T (both (all_below 112 (single_test singles tree)) (all_below 112 (λ k. all_below k (pair_test singles tree k))))
unfolding rule
rest = both_right (eqb (find tree 0) 0) (both (all_below 112 (single_test singles tree)) (all_below 112 (λ k. all_below k (pair_test singles tree k)))) holds

record Single (j : ℕ) : Type 0 where
  positive : 0 < S j
  unfound : find tree (S j) ≡ 0

single : (j : ℕ) → j < 112 → Single j
unfolding single_test S
single j h =
    let s = get_or singles j 0 in
    let t = below 112 (single_test singles tree) (both_left (all_below 112 (single_test singles tree)) (all_below 112 (λ k. all_below k (pair_test singles tree k))) rest) j h in
    record {
      positive = ltb→lt 0 s (both_left (ltb 0 s) (eqb (find tree s) 0) t);
      unfound = eqb→eq (find tree s) 0 (both_right (ltb 0 s) (eqb (find tree s) 0) t);
    }

pair_found : (j k : ℕ) → j < k → k < 112 → find tree (bit_xor (S j) (S k)) ≡ row (bit_xor (S j) (S k)) j k
unfolding pair_test S
pair_found j k hj hk =
    eqb→eq _ _
    (below k (pair_test singles tree k)
    (below 112 (λ m. all_below m (pair_test singles tree m))
    (both_right (all_below 112 (single_test singles tree)) (all_below 112 (λ m. all_below m (pair_test singles tree m))) rest) k hk) j hj)

-- ---- what is found at a pattern's remainder: its row, or 0 where it is no pair

row_of : Repairs → ℕ
row_of None = 0
row_of (One j) = 0
row_of (Two j k) = row (bit_xor (S j) (S k)) j k

row_found : (ρ : Repairs) → Proper 14 ρ → find tree (pattern 14 ρ) ≡ row_of ρ
unfolding row_of
row_found None h = ap (find tree) (pattern_none 14) ∙ zero_found
row_found (One j) h = ap (find tree) (single_is j h) ∙ (single j h).unfound
row_found (Two j k) h = ap (find tree) (two_is j k h.0 h.1) ∙ pair_found j k h.0 h.1

row_pos : (r j k : ℕ) → j < k → 0 < row r j k
unfolding row
row_pos r j k h = omega arith

same_row : (ρ σ : Repairs) → Proper 14 ρ → Proper 14 σ → pattern 14 ρ ≡ pattern 14 σ → row_of ρ ≡ row_of σ
same_row ρ σ h g e = sym (row_found ρ h) ∙ ap (find tree) e ∙ row_found σ g

-- two different positions do not cancel
distinct : (j k : ℕ) → j < k → k < 112 → pattern 14 (One j) ≡ pattern 14 (One k) → ⊥
unfolding row_of
distinct j k h l e =
    let z : pattern 14 (Two j k) ≡ 0 = pattern_two 14 j k ∙ ap (λ (x : ℕ). bit_xor x (pattern 14 (One k))) e ∙ xor_self (pattern 14 (One k)) in
    omega (arith, row_pos (bit_xor (S j) (S k)) j k h, sym (row_found (Two j k) (h, l)) ∙ ap (find tree) z ∙ zero_found)

same : (ρ σ : Repairs) → Proper 14 ρ → Proper 14 σ → pattern 14 ρ ≡ pattern 14 σ → ρ ≡ σ
unfolding row_of row
same None None h g e = refl
same None (One j) h g e = absurd (omega (arith, (single j g).positive, sym (pattern_none 14) ∙ e ∙ single_is j g))
same (One j) None h g e = absurd (omega (arith, (single j h).positive, sym (pattern_none 14) ∙ sym e ∙ single_is j h))
same None (Two j k) h g e = absurd (omega (arith, g.0, same_row None (Two j k) h g e))
same (Two j k) None h g e = absurd (omega (arith, h.0, same_row (Two j k) None h g e))
same (One i) (Two j k) h g e = absurd (omega (arith, g.0, same_row (One i) (Two j k) h g e))
same (Two j k) (One i) h g e = absurd (omega (arith, h.0, same_row (Two j k) (One i) h g e))
same (One j) (One k) h g e =
    let p : ¬ (j < k) = λ l. distinct j k l g e in
    let q : ¬ (k < j) = λ l. distinct k j l h (sym e) in
    let s : j ≡ k = omega arith in
    ap One s
same (Two j k) (Two l m) h g e =
    let r : bit_xor (S j) (S k) * 2 ^ 16 + j * 256 + k ≡ bit_xor (S l) (S m) * 2 ^ 16 + l * 256 + m
    = same_row (Two j k) (Two l m) h g e in
    let x : bit_xor (S j) (S k) ≡ bit_xor (S l) (S m) = sym (two_is j k h.0 h.1) ∙ e ∙ two_is l m g.0 g.1 in
    let p : j ≡ l = omega arith in
    let q : k ≡ m = omega arith in
    ap₂ Two p q

pub apart_14 : Apart 14
apart_14 = record { same = same }

pub apart_7 : Apart 7
apart_7 = shorter 7 7 apart_14
