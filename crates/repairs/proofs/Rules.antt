-- The rule of each table, by one computed test over the whole table, for any lists: a function that lends its constant tables cites
-- `single_law _ tt` or, for a part of the double errors, `part_law k _ e _ _ tt`, and antt computes the test on the code's own numbers.
-- Assumes nothing.
use mathlib.Core.Path.{◌≡◌, refl, sym, ap, ◌∙◌, subst}
use mathlib.Core.Bool.{Bool, true, false}
use mathlib.Core.Logic.{◌⊎◌, inl, inr}
use mathlib.Core.List.{List, [], ◌∷◌}
use Prim.Native.Nat.{ℕ, zero, suc, ◌+◌, ◌*◌, ◌/◌, ◌%◌, ◌^◌, ◌<◌}
use native.Mathlib.Nat.{add-zero, lt_trans, not-suc-le-zero, le_of_suc-le-suc, zero-lt-suc}
use native.Mathlib.Omega.{arith}
use lib.Dec.{T, eqb, ltb, eqb→eq, eqb_refl, ltb→lt}
use lib.ListN.{length, get_or}
use lib.Bits.{bit_xor, xor_shr, xor_comm}
use Rattle.lists.proofs.Test.{both, both_left, both_right, all_below, below, every, at}
use Rattle.lists.proofs.Xor.{xor_back}
use Rattle.lists.proofs.Tree.{Tree, grow, find, In, here, there, is_there}
use Rattle.annex10.specs.declared.Repairs.TheVariants.{One, Two}
use Rattle.annex10.specs.Repair.{pattern}
use Rattle.annex10.proofs.Singles.{singles_from, singles, S, single_is, two_is}
use Rattle.repairs.specs.Inner.{remainder_at, SingleTable, DoubleTable}

-- ---- the tests; ss are the remainders of the single positions

-- the remainders rise, from above x's
unfoldable pub rising : ℕ → List ℕ → Bool
rising x [] = true
rising x (y ∷ ys) = both (ltb (x / 256) (y / 256)) (rising y ys)

-- v stands in the list
abbrev pub either : Bool → Bool → Bool
either true b = true
either false b = b

unfoldable pub has : List ℕ → ℕ → Bool
has [] v = false
has (x ∷ xs) v = either (eqb x v) (has xs v)

unfoldable pub single_right : List ℕ → ℕ → ℕ → Bool
single_right ss i d = both (ltb (d % 256) 112) (eqb (d / 256) (get_or ss (d % 256) 0))

unfoldable pub single_has : List ℕ → List ℕ → ℕ → Bool
single_has ss t j = has t (get_or ss j 0 * 256 + j)

unfoldable pub single_rule : List ℕ → List ℕ → Bool
single_rule ss t = both (rising 0 t) (both (every (single_right ss) 0 t) (all_below 112 (single_has ss t)))

-- a test at the same place of two lists
abbrev pub every2 : (ℕ → ℕ → Bool) → List ℕ → List ℕ → Bool
every2 f [] us = true
every2 f (d ∷ ds) [] = true
every2 f (d ∷ ds) (u ∷ us) = both (f d u) (every2 f ds us)

unfoldable pub double_right : List ℕ → ℕ → ℕ → Bool
double_right ss d u = both (ltb (d % 256) u) (both (ltb u 112) (eqb (d / 256) (bit_xor (get_or ss (d % 256) 0) (get_or ss u 0))))

-- each entry with its second position
abbrev pub rows : List ℕ → List ℕ → List ℕ
rows [] us = []
rows (d ∷ ds) [] = []
rows (d ∷ ds) (u ∷ us) = (d * 256 + u) ∷ rows ds us

-- b, where a holds
abbrev pub wherever : Bool → Bool → Bool
wherever true b = b
wherever false b = true

-- the row of the remainder x is found, with the positions w: the first times 256, and the second
unfoldable pub row_has : Tree → ℕ → ℕ → Bool
row_has r x w = eqb (find r x) (x * 2 ^ 16 + w)

-- those of a position of remainder s, with each behind it whose own top bits are q: no xor is worked out for the others
unfoldable pub behind_has : Tree → ℕ → ℕ → ℕ → List ℕ → Bool
behind_has r s q w [] = true
behind_has r s q w (x ∷ xs) = both (wherever (eqb (x / 2 ^ 20) q) (row_has r (bit_xor s x) w)) (behind_has r s q (suc w) xs)

-- those of each position from j on, that lie in the part p; the first pair of j is with j + 1
unfoldable pub pairs_have : ℕ → Tree → ℕ → List ℕ → Bool
pairs_have p r j [] = true
pairs_have p r j (s ∷ xs) = both (behind_has r s (bit_xor p (s / 2 ^ 20)) (j * 257 + 1) xs) (pairs_have p r (suc j) xs)

unfoldable pub double_rule : ℕ → List ℕ → List ℕ → List ℕ → Bool
double_rule p ss t u =
    both (eqb (length u) (length t))
    (both (rising 0 t)
    (both (every2 (double_right ss) t u)
    (pairs_have p (grow 9 (rows t u)).0 0 ss)))

-- ---- what they show

from_first : (x : ℕ) (ys : List ℕ) → T (rising x ys) → (q : ℕ) → q < length ys → x / 256 < remainder_at ys q
unfolding rising
from_first x [] t q h = absurd (not-suc-le-zero h)
from_first x (y ∷ ys) t zero h = ltb→lt (x / 256) (y / 256) (both_left (ltb (x / 256) (y / 256)) (rising y ys) t)
from_first x (y ∷ ys) t (suc q) h =
    lt_trans (ltb→lt (x / 256) (y / 256) (both_left (ltb (x / 256) (y / 256)) (rising y ys) t))
    (from_first y ys (both_right (ltb (x / 256) (y / 256)) (rising y ys) t) q (le_of_suc-le-suc h))

rises : (x : ℕ) (ys : List ℕ) → T (rising x ys) → (p q : ℕ) → p < q → q < length ys → remainder_at ys p < remainder_at ys q
unfolding rising
rises x [] t p q pq h = absurd (not-suc-le-zero h)
rises x (y ∷ ys) t p zero pq h = absurd (not-suc-le-zero pq)
rises x (y ∷ ys) t zero (suc q) pq h =
    from_first y ys (both_right (ltb (x / 256) (y / 256)) (rising y ys) t) q (le_of_suc-le-suc h)
rises x (y ∷ ys) t (suc p) (suc q) pq h =
    rises y ys (both_right (ltb (x / 256) (y / 256)) (rising y ys) t) p q (le_of_suc-le-suc pq) (le_of_suc-le-suc h)

either_case : (a b : Bool) → T (either a b) → T a ⊎ T b
either_case true b t = inl tt
either_case false b t = inr t

has_in : (xs : List ℕ) (v : ℕ) → T (has xs v) → In xs v
unfolding has
has_in [] v t = absurd t
has_in (x ∷ xs) v t = go (either_case (eqb x v) (has xs v) t) (has_in xs v)
  where
    go : T (eqb x v) ⊎ T (has xs v) → (T (has xs v) → In xs v) → In (x ∷ xs) v
    go (inl e) ih = here x xs (eqb→eq x v e)
    go (inr h) ih = there x (ih h)

-- an entry of the table of single errors
record Entry (d : ℕ) : Type 0 where
  bound : d % 256 < 112
  own : d / 256 ≡ S (d % 256)

entry : (i d : ℕ) → T (single_right singles i d) → Entry d
unfolding single_right S
entry i d t =
    let b = ltb (d % 256) 112 in
    let e = eqb (d / 256) (get_or singles (d % 256) 0) in
    record { bound = ltb→lt (d % 256) 112 (both_left b e t); own = eqb→eq (d / 256) (get_or singles (d % 256) 0) (both_right b e t) }

-- the entry of position j stands in the table
in_singles : (t : List ℕ) (j : ℕ) → j < 112 → In t (get_or singles j 0 * 256 + j) → (i : ℕ) × (i < length t) × (remainder_at t i ≡ pattern 14 (One j))
unfolding S
in_singles t j l w =
    let s : get_or t w.place 0 ≡ get_or singles j 0 * 256 + j = w.stands in
    let q : remainder_at t w.place ≡ get_or singles j 0 = omega arith in
    (w.place, w.inside, q ∙ sym (single_is j l))

pub single_law : (t : List ℕ) → T (single_rule singles t) → SingleTable t
unfolding single_rule single_has
single_law t h =
    record {
      rises = rises 0 t (both_left a (both b c) h);
      proper = λ i l. (e i l).bound;
      right = λ i l. single_is (get_or t i 0 % 256) (e i l).bound ∙ sym (e i l).own;
      there = λ j l. in_singles t j l (has_in t (get_or singles j 0 * 256 + j) (below 112 (single_has singles t) (both_right b c bc) j l));
    }
  where
    a : Bool
    a = rising 0 t

    b : Bool
    b = every (single_right singles) 0 t

    c : Bool
    c = all_below 112 (single_has singles t)

    bc : T (both b c)
    bc = both_right a (both b c) h

    e : (i : ℕ) → i < length t → Entry (get_or t i 0)
    e i l = entry i (get_or t i 0) (at (single_right singles) t (both_left b c bc) i l)

at2 : (f : ℕ → ℕ → Bool) (ds us : List ℕ) → T (every2 f ds us) → (i : ℕ) → i < length ds → i < length us → T (f (get_or ds i 0) (get_or us i 0))
at2 f [] us t i h l = absurd (not-suc-le-zero h)
at2 f (d ∷ ds) [] t i h l = absurd (not-suc-le-zero l)
at2 f (d ∷ ds) (u ∷ us) t zero h l = both_left (f d u) (every2 f ds us) t
at2 f (d ∷ ds) (u ∷ us) t (suc i) h l = at2 f ds us (both_right (f d u) (every2 f ds us) t) i (le_of_suc-le-suc h) (le_of_suc-le-suc l)

-- an entry of the table of double errors, with its second position
record Row (d u : ℕ) : Type 0 where
  order : d % 256 < u
  bound : u < 112
  own : d / 256 ≡ bit_xor (S (d % 256)) (S u)

row_right : (d u : ℕ) → T (double_right singles d u) → Row d u
unfolding double_right S
row_right d u t =
    let b = ltb u 112 in
    let e = eqb (d / 256) (bit_xor (get_or singles (d % 256) 0) (get_or singles u 0)) in
    let be = both_right (ltb (d % 256) u) (both b e) t in
    record {
      order = ltb→lt (d % 256) u (both_left (ltb (d % 256) u) (both b e) t);
      bound = ltb→lt u 112 (both_left b e be);
      own = eqb→eq (d / 256) (bit_xor (get_or singles (d % 256) 0) (get_or singles u 0)) (both_right b e be);
    }

rows_at : (ds us : List ℕ) (i : ℕ) → i < length (rows ds us)
    → (i < length ds) × (get_or (rows ds us) i 0 ≡ get_or ds i 0 * 256 + get_or us i 0)
rows_at [] us i h = absurd (not-suc-le-zero h)
rows_at (d ∷ ds) [] i h = absurd (not-suc-le-zero h)
rows_at (d ∷ ds) (u ∷ us) zero h = (zero-lt-suc (length ds), refl)
rows_at (d ∷ ds) (u ∷ us) (suc i) h =
    let r = rows_at ds us i (le_of_suc-le-suc h) in
    (omega arith, r.1)

wherever_same : (m n : ℕ) (b : Bool) → m ≡ n → T (wherever (eqb m n) b) → T b
wherever_same m n b e t = go (eqb m n) (subst (λ (k : ℕ). T (eqb m k)) e (eqb_refl m)) t
  where
    go : (a : Bool) → T a → T (wherever a b) → T b
    go true h t = t
    go false h t = absurd h

behind_at : (r : Tree) (s q w : ℕ) (xs : List ℕ) → T (behind_has r s q w xs) → (k : ℕ) → k < length xs → get_or xs k 0 / 2 ^ 20 ≡ q
    → T (row_has r (bit_xor s (get_or xs k 0)) (w + k))
unfolding behind_has
behind_at r s q w [] t k h e = absurd (not-suc-le-zero h)
behind_at r s q w (x ∷ xs) t zero h e =
    let b = row_has r (bit_xor s x) w in
    subst (λ (n : ℕ). T (row_has r (bit_xor s x) n)) (sym (add-zero w))
    (wherever_same (x / 2 ^ 20) q b e (both_left (wherever (eqb (x / 2 ^ 20) q) b) (behind_has r s q (suc w) xs) t))
behind_at r s q w (x ∷ xs) t (suc k) h e =
    subst (λ (n : ℕ). T (row_has r (bit_xor s (get_or xs k 0)) n)) (omega arith)
    (behind_at r s q (suc w) xs (both_right (wherever (eqb (x / 2 ^ 20) q) (row_has r (bit_xor s x) w)) (behind_has r s q (suc w) xs) t) k
    (le_of_suc-le-suc h) e)

-- where two positions lie in the part p, the top bits of the second are those of p xor the first
partner : (p s x : ℕ) → bit_xor s x / 2 ^ 20 ≡ p → x / 2 ^ 20 ≡ bit_xor p (s / 2 ^ 20)
partner p s x e =
    sym (ap (λ (n : ℕ). bit_xor n (s / 2 ^ 20)) (sym e ∙ xor_shr s x 20 ∙ xor_comm (s / 2 ^ 20) (x / 2 ^ 20)) ∙ xor_back (x / 2 ^ 20) (s / 2 ^ 20))

pairs_at : (p : ℕ) (r : Tree) (i : ℕ) (xs : List ℕ) → T (pairs_have p r i xs) → (j k : ℕ) → j < k → k < length xs
    → bit_xor (get_or xs j 0) (get_or xs k 0) / 2 ^ 20 ≡ p → T (row_has r (bit_xor (get_or xs j 0) (get_or xs k 0)) ((i + j) * 256 + (i + k)))
unfolding pairs_have
pairs_at p r i [] t j k l h e = absurd (not-suc-le-zero h)
pairs_at p r i (s ∷ xs) t j zero l h e = absurd (not-suc-le-zero l)
pairs_at p r i (s ∷ xs) t zero (suc k) l h e =
    let q = bit_xor p (s / 2 ^ 20) in
    subst (λ (n : ℕ). T (row_has r (bit_xor s (get_or xs k 0)) n)) (omega arith)
    (behind_at r s q (i * 257 + 1) xs (both_left (behind_has r s q (i * 257 + 1) xs) (pairs_have p r (suc i) xs) t) k (le_of_suc-le-suc h)
    (partner p s (get_or xs k 0) e))
pairs_at p r i (s ∷ xs) t (suc j) (suc k) l h e =
    let b = behind_has r s (bit_xor p (s / 2 ^ 20)) (i * 257 + 1) xs in
    subst (λ (n : ℕ). T (row_has r (bit_xor (get_or xs j 0) (get_or xs k 0)) n)) (omega arith)
    (pairs_at p r (suc i) xs (both_right b (pairs_have p r (suc i) xs) t) j k (le_of_suc-le-suc l) (le_of_suc-le-suc h) e)

how_many_law : length singles ≡ 112
unfolding singles singles_from
how_many_law = refl

-- the row of the pair j, k of the part p is found
pair_found : (p : ℕ) (r : Tree) → T (pairs_have p r 0 singles) → (j k : ℕ) → j < k → k < 112 → bit_xor (S j) (S k) / 2 ^ 20 ≡ p
    → find r (bit_xor (S j) (S k)) ≡ bit_xor (S j) (S k) * 2 ^ 16 + (j * 256 + k)
unfolding row_has S
pair_found p r t j k hj hk e =
    let b : (0 + j) * 256 + (0 + k) ≡ j * 256 + k = omega arith in
    eqb→eq _ _ (pairs_at p r 0 singles t j k hj (subst (λ (n : ℕ). k < n) (sym how_many_law) hk) e)
    ∙ ap (λ (n : ℕ). bit_xor (S j) (S k) * 2 ^ 16 + n) b

double_law : (p : ℕ) (t u : List ℕ) → T (double_rule p singles t u) → DoubleTable p t u
unfolding double_rule
double_law p t u h =
    record {
      as_long = len;
      rises = rises 0 t (both_left b (both c d) bcd);
      proper = λ i l. ((row i l).order, (row i l).bound);
      right = λ i l. two_is (get_or t i 0 % 256) (get_or u i 0) (row i l).order (row i l).bound ∙ sym (row i l).own;
      there = λ j k q e. in_table (find r (bit_xor (S j) (S k))) j k q.0 q.1 (found j k q.0 q.1 e) (is_there 9 (rows t u) (bit_xor (S j) (S k)));
    }
  where
    r : Tree
    r = (grow 9 (rows t u)).0

    a : Bool
    a = eqb (length u) (length t)

    b : Bool
    b = rising 0 t

    c : Bool
    c = every2 (double_right singles) t u

    d : Bool
    d = pairs_have p r 0 singles

    bcd : T (both b (both c d))
    bcd = both_right a (both b (both c d)) h

    cd : T (both c d)
    cd = both_right b (both c d) bcd

    len : length u ≡ length t
    len = eqb→eq (length u) (length t) (both_left a (both b (both c d)) h)

    row : (i : ℕ) → i < length t → Row (get_or t i 0) (get_or u i 0)
    row i l = row_right (get_or t i 0) (get_or u i 0) (at2 (double_right singles) t u (both_left c d cd) i l (subst (λ (n : ℕ). i < n) (sym len) l))

    found : (j k : ℕ) → j < k → k < 112 → pattern 14 (Two j k) / 2 ^ 20 ≡ p
        → find r (bit_xor (S j) (S k)) ≡ bit_xor (S j) (S k) * 2 ^ 16 + (j * 256 + k)
    found j k hj hk e = pair_found p r (both_right c d cd) j k hj hk (ap (λ (x : ℕ). x / 2 ^ 20) (sym (two_is j k hj hk)) ∙ e)

    in_table : (f j k : ℕ) → j < k → k < 112 → f ≡ bit_xor (S j) (S k) * 2 ^ 16 + (j * 256 + k) → (f ≡ 0) ⊎ In (rows t u) f
        → (i : ℕ) × (i < length t) × (remainder_at t i ≡ pattern 14 (Two j k))
    in_table f j k hj hk x (inl z) = absurd (omega arith)
    in_table f j k hj hk x (inr w) =
        let i = w.place in
        let (l, e) = rows_at t u i w.inside in
        let s : get_or t i 0 * 256 + get_or u i 0 ≡ bit_xor (S j) (S k) * 2 ^ 16 + (j * 256 + k) = sym e ∙ w.stands ∙ x in
        let v = row i l in
        let q : remainder_at t i ≡ bit_xor (S j) (S k) = omega (arith, v.bound) in
        (i, l, q ∙ sym (two_is j k hj hk))

-- as a function asks it that tells the part of a number
pub part_law : (p q : ℕ) → q ≡ p → (t u : List ℕ) → T (double_rule p singles t u) → DoubleTable q t u
part_law p q e t u h = subst (λ (n : ℕ). DoubleTable n t u) (sym e) (double_law p t u h)
