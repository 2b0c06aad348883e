-- The list of the places that are let through.
--     clean_bit, exact_bit      the marks, as the code computes them
--     marks_of_law                  a mark is 0 or 1, and there are as many as places
--     mark_is                   where the mark of a place stands
--     kept_same                 two tests that are the same
--     exact_kept                the marked places are the exact ones
--     none_kept                 no place is marked
--     kept_length               how many there are
--     listed_is, exact_done     the answer where nothing is refused
-- Assumes nothing.
use Rattle.std.proofs.Common.{◌≡◌, ℕ, zero, suc, ◌+◌, ◌*◌, ◌/◌, ◌%◌, ◌<◌, ◌≤◌, Bool, true, false, ◌&&◌, ◌||◌, eqb, List, [], ◌∷◌, ◌++◌, fold, length, get_or, take, drop, sym, refl, ap, ◌∙◌, subst, arith, lit<, length-take-le, eq-eqb}
use native.Mathlib.Decide.{dec_lt}
use lib.Bits.{bit_or, bit_and, or_add_and, and_le_l, and_le_r}
use lib.ListN.{get_or-eq_default}
use Rattle.lists.specs.From.{tabulate}
use Rattle.lists.specs.Told.{Told, done}
use Rattle.lists.specs.Bits.{as_bit}
use Rattle.lists.proofs.Table.{length_tabulate, get_d_tabulate}
use Rattle.slicing.proofs.Slicing.{as_bit_lt}
use Rattle.scan.specs.Sieve.{kept, lane_of, onto}
use Rattle.scan.specs.Exact.{clean_at, exact, list_of, exact_into}
use Rattle.scan.specs.Inner.{Marks, marked, any_of, exact_mark, exact_marks}
use Rattle.scan.proofs.Starting.{lane_lt}
use Rattle.scan.proofs.Keeping.{or_bits, lane_is, kept_none}

-- ---- marks

and_bits : (a b : Bool) → bit_and (as_bit a) (as_bit b) ≡ as_bit (a && b)
and_bits true true = refl
and_bits true false = refl
and_bits false true = refl
and_bits false false = refl

pub clean_bit : (crc bit : ℕ) {x y : ℕ} → x ≡ as_bit (eqb crc 0) → y ≡ as_bit (eqb bit 1) → bit_and x y ≡ as_bit (eqb crc 0 && eqb bit 1)
clean_bit crc bit e g = rw (e, g) (and_bits (eqb crc 0) (eqb bit 1))

pub exact_bit : (lead : ℕ) (coherent noncoherent crcs others : List ℕ) (i : ℕ) {x y : ℕ}
    → x ≡ as_bit (eqb (get_or crcs i 0) 0 && eqb (get_or coherent (8 + i + 8 * lead) 0) 1)
    → y ≡ as_bit (eqb (get_or others i 0) 0 && eqb (get_or noncoherent (8 + i + 8 * lead) 0) 1)
    → bit_or x y ≡ exact_mark lead coherent noncoherent crcs others i
unfolding exact_mark clean_at
exact_bit lead coherent noncoherent crcs others i e g =
    rw (e, g) (or_bits (eqb (get_or crcs i 0) 0 && eqb (get_or coherent (8 + i + 8 * lead) 0) 1) (eqb (get_or others i 0) 0 && eqb (get_or noncoherent (8 + i + 8 * lead) 0) 1))

pub marks_of_law : (lead many : ℕ) (coherent noncoherent crcs others : List ℕ) {marks : List ℕ} → marks ≡ exact_marks lead many coherent noncoherent crcs others → Marks many marks
unfolding exact_marks exact_mark
marks_of_law lead many coherent noncoherent crcs others e =
    let f : ℕ → ℕ = λ (i : ℕ). as_bit (clean_at lead coherent crcs i || clean_at lead noncoherent others i) in
    subst (Marks many) (sym e) (record {
      size = length_tabulate many f;
      each = λ i. elim (dec_lt i many) [
        | yes inside ↦ rw (get_d_tabulate many f i 0 inside) (as_bit_lt (clean_at lead coherent crcs i || clean_at lead noncoherent others i))
        | no outside ↦ rw (get_or-eq_default (tabulate many f) 0 {n = i} (rw (length_tabulate many f) (omega arith))) (lit< tt)
      ];
    })

-- ---- places

eq_one : (b : ℕ) → b < 2 → b ≡ as_bit (eqb b 1)
eq_one zero h = refl
eq_one (suc zero) h = refl
eq_one (suc (suc b)) h = omega arith

pub mark_is : (many : ℕ) (marks : List ℕ) → Marks many marks → (o k : ℕ) → k < 8 → get_or marks (8 * o + 4 * (k % 2) + k / 2) 0 ≡ as_bit (marked marks (8 * o + k))
unfolding marked
mark_is many marks w o k h =
    ap (λ (i : ℕ). get_or marks i 0) (lane_is o k h) ∙ eq_one (get_or marks (lane_of (8 * o + k)) 0) (w.each (lane_of (8 * o + k)))

pub kept_same : (f g : ℕ → Bool) (n : ℕ) → ((k : ℕ) → k < n → f k ≡ g k) → kept f n ≡ kept g n
unfolding kept
kept_same f g zero each = refl
kept_same f g (suc n) each = rw (each n (omega arith), kept_same f g n (λ k h. each k (omega arith)))

eq_bit : (t : Bool) → eqb (as_bit t) 1 ≡ t
eq_bit true = refl
eq_bit false = refl

pub exact_kept : (lead m : ℕ) (coherent noncoherent crcs others : List ℕ) {marks : List ℕ} → marks ≡ exact_marks lead (8 * m) coherent noncoherent crcs others
    → kept (marked marks) (8 * m) ≡ kept (exact lead coherent noncoherent crcs others) (8 * m)
unfolding marked exact exact_marks exact_mark
exact_kept lead m coherent noncoherent crcs others {marks} e =
    let f : ℕ → ℕ = λ (i : ℕ). as_bit (clean_at lead coherent crcs i || clean_at lead noncoherent others i) in
    kept_same (λ (k : ℕ). eqb (get_or marks (lane_of k) 0) 1) (λ (k : ℕ). clean_at lead coherent crcs (lane_of k) || clean_at lead noncoherent others (lane_of k)) (8 * m)
    (λ k h.
    rw e (ap (λ (x : ℕ). eqb x 1) (get_d_tabulate (8 * m) f (lane_of k) 0 (lane_lt m k h))
    ∙ eq_bit (clean_at lead coherent crcs (lane_of k) || clean_at lead noncoherent others (lane_of k))))

-- ---- where no place is marked

any_none : (r : ℕ) (marks : List ℕ) → fold bit_or r marks ≡ 0 → (r ≡ 0) × ((k : ℕ) → get_or marks k 0 ≡ 0)
any_none r [] e = (e, λ k. refl)
any_none r (b ∷ marks) e =
    let w = any_none (bit_or r b) marks e in
    let o = or_add_and r b in
    let l = and_le_l r b in
    let m = and_le_r r b in
    (omega arith, elim [ zero ↦ omega arith | suc k ↦ w.1 k ])

pub none_kept : (m : ℕ) (marks : List ℕ) {r : ℕ} → r ≡ any_of marks → r ≡ 0 → kept (marked marks) (8 * m) ≡ []
unfolding marked
none_kept m marks e z =
    kept_none (λ (k : ℕ). eqb (get_or marks (lane_of k) 0) 1) (8 * m) (λ k h. rw ((any_none 0 marks (sym e ∙ z)).1 (lane_of k)))

-- ---- the list

pub kept_length : (xs ks : List ℕ) (n : ℕ) → n ≤ length xs → take n xs ≡ ks → n ≡ length ks
kept_length xs ks n h e = sym (length-take-le n xs h) ∙ ap length e

pub listed_is : (ks list : List ℕ) {n : ℕ} {t : List ℕ} → n ≡ length ks → t ≡ ks → ◌≡◌ {A = Told ℕ × List ℕ} (done n, t ++ drop n list) (list_of ks list)
unfolding onto
listed_is ks list e g = rw (e, g)

pub exact_done : (lead many : ℕ) (coherent noncoherent crcs others list : List ℕ) → length coherent ≡ 1152 → length noncoherent ≡ 1152 → length crcs ≡ many
    → length others ≡ many → length list ≡ many
    → exact_into lead many coherent noncoherent crcs others list ≡ list_of (kept (exact lead coherent noncoherent crcs others) many) list
unfolding exact_into
exact_done lead many coherent noncoherent crcs others list a b c d e = simp (eq-eqb _ _ a, eq-eqb _ _ b, eq-eqb _ _ c, eq-eqb _ _ d, eq-eqb _ _ e)
