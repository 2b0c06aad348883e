-- The remainder is that of the division of polynomials.
--     division          the message times x^24 is a multiple of the generator, plus the remainder
--     division_unique   and no other number below 2^24 is left by any such multiple
-- Assumes nothing.
use mathlib.Core.Path.{◌≡◌, refl, sym, ap, ap₂, ◌∙◌, subst}
use mathlib.Core.List.{List, [], ◌∷◌, ◌++◌}
use Prim.Native.Nat.{ℕ, zero, suc, ◌+◌, ◌-◌, ◌*◌, ◌/◌, ◌^◌, ◌<◌, ◌≤◌}
use native.Mathlib.Nat.{add-zero, zero-mul, zero-lt-suc, lt_irrefl, lt_of_le_of_lt, pow-suc, mul_comm, mul_assoc, mul-one}
use native.Mathlib.Omega.{arith}
use lib.ListN.{length, replicate, length-append}
use lib.Dec.{lit≤}
use lib.Pow.{pow_pos}
use lib.Bits.{bit_xor, xor_block, xor_comm, xor_self, xor_zero_r, xor_lt, xor_shr}
use Rattle.annex10.specs.Remainder.{generator, less, bring, divide, bits, remainder}
use Rattle.annex10.specs.Division.{AreBits, number, times, xors, Divided}
use Rattle.lists.proofs.Xor.{xor_assoc, xor4, xor_back, xor_zero}
use Rattle.annex10.proofs.Linear.{are_bits, are_zeros, are_append, divide_lt, bring_lt}

-- G as Annex 10 writes it: 1 + x^3 + x^10 + x^12 + x^13 + .. + x^24
pub generator_terms : generator ≡ 2 ^ 0 + 2 ^ 3 + 2 ^ 10 + (2 ^ 25 - 2 ^ 12)
generator_terms = refl

-- the coefficients that were taken away
quotient : ℕ → List ℕ → List ℕ
quotient r [] = []
quotient r (b ∷ bs) = ((r * 2 + b) / 2 ^ 24) ∷ quotient (bring r b) bs

less_back : (c t : ℕ) → c < 2 → bit_xor (c * generator) (less c t) ≡ t
less_back zero t h = refl
less_back (suc zero) t h = xor_comm generator (bit_xor t generator) ∙ xor_back t generator
less_back (suc (suc c)) t h = absurd (omega arith)

divides : (bs : List ℕ) (p r : ℕ) → AreBits bs → r < 2 ^ 24
    → number (bit_xor p r) bs ≡ bit_xor (times p (quotient r bs) generator) (divide r bs)
unfolding AreBits quotient
divides [] p r h hr = refl
divides (b ∷ bs) p r h hr =
    let t = r * 2 + b in
    let c = t / 2 ^ 24 in
    let hb : b < 2 = h.0 in
    ap (λ (x : ℕ). number x bs)
    (sym (xor_block 1 p r 0 b (zero-lt-suc 1) hb)
    ∙ ap₂ bit_xor (add-zero (p * 2)) (sym (less_back c t (omega arith)))
    ∙ sym (xor_assoc (p * 2) (c * generator) (bring r b)))
    ∙ divides bs (bit_xor (p * 2) (c * generator)) (bring r b) h.1 (bring_lt r b hr hb)

number_append : (ps qs : List ℕ) (v : ℕ) → number v (ps ++ qs) ≡ number (number v ps) qs
number_append [] qs v = refl
number_append (p ∷ ps) qs v = number_append ps qs (v * 2 + p)

number_zeros : (n v : ℕ) → number v (replicate n 0) ≡ v * 2 ^ n
number_zeros zero v = sym (mul-one v)
number_zeros (suc n) v =
    ap (λ (x : ℕ). number x (replicate n 0)) (add-zero (v * 2)) ∙ number_zeros n (v * 2)
    ∙ mul_assoc v 2 (2 ^ n) ∙ ap (λ (x : ℕ). v * x) (mul_comm 2 (2 ^ n) ∙ sym (pow-suc 2 n))

quotient_bits : (bs : List ℕ) (r : ℕ) → AreBits bs → r < 2 ^ 24 → AreBits (quotient r bs)
unfolding AreBits quotient
quotient_bits [] r h hr = tt
quotient_bits (b ∷ bs) r h hr =
    let hb : b < 2 = h.0 in
    (omega arith, quotient_bits bs (bring r b) h.1 (bring_lt r b hr hb))

quotient_length : (bs : List ℕ) (r : ℕ) → length (quotient r bs) ≡ length bs
unfolding quotient
quotient_length [] r = refl
quotient_length (b ∷ bs) r = ap suc (quotient_length bs (bring r b))

pub division : (xs : List ℕ) → (q : List ℕ) × Divided xs q (remainder xs)
unfolding remainder
division xs =
    let z = bits xs ++ replicate 24 0 in
    let hz = are_append (bits xs) (replicate 24 0) (are_bits xs) (are_zeros 24) in (
      quotient 0 z,
      record {
        coefficients = quotient_bits z 0 hz (pow_pos 24);
        as_many = quotient_length z 0 ∙ length-append (bits xs) (replicate 24 0);
        low = divide_lt z 0 hz (pow_pos 24);
        whole = sym (number_zeros 24 (number 0 (bits xs))) ∙ sym (number_append (bits xs) (replicate 24 0) 0) ∙ divides z 0 0 hz (pow_pos 24);
      },
    )

-- ---- and it is the only one

scale : (q u g : ℕ) → q < 2 → u < 2 → bit_xor (q * g) (u * g) ≡ bit_xor q u * g
scale zero u g hq hu = ap (λ (x : ℕ). bit_xor x (u * g)) (zero-mul g)
scale (suc zero) zero g hq hu = ap (bit_xor (1 * g)) (zero-mul g) ∙ xor_zero_r (1 * g)
scale (suc zero) (suc zero) g hq hu = xor_self (1 * g) ∙ sym (zero-mul g)
scale (suc zero) (suc (suc u)) g hq hu = absurd (omega arith)
scale (suc (suc q)) u g hq hu = absurd (omega arith)

twice : (p v : ℕ) → bit_xor (p * 2) (v * 2) ≡ bit_xor p v * 2
twice p v =
    ap₂ bit_xor (sym (add-zero (p * 2))) (sym (add-zero (v * 2))) ∙ xor_block 1 p v 0 0 (zero-lt-suc 1) (zero-lt-suc 1)
    ∙ add-zero (bit_xor p v * 2)

times_linear : (qs us : List ℕ) (p v g : ℕ) → length qs ≡ length us → AreBits qs → AreBits us
    → bit_xor (times p qs g) (times v us g) ≡ times (bit_xor p v) (xors qs us) g
unfolding AreBits
times_linear [] [] p v g e hq hu = refl
times_linear [] (u ∷ us) p v g e hq hu = absurd (omega arith)
times_linear (q ∷ qs) [] p v g e hq hu = absurd (omega arith)
times_linear (q ∷ qs) (u ∷ us) p v g e hq hu =
    times_linear qs us (bit_xor (p * 2) (q * g)) (bit_xor (v * 2) (u * g)) g (omega arith) hq.1 hu.1
    ∙ ap (λ (x : ℕ). times x (xors qs us) g)
    (xor4 (p * 2) (q * g) (v * 2) (u * g) ∙ ap₂ bit_xor (twice p v) (scale q u g hq.0 hu.0))

xors_are : (qs us : List ℕ) → AreBits qs → AreBits us → AreBits (xors qs us)
unfolding AreBits
xors_are [] us hq hu = tt
xors_are (q ∷ qs) [] hq hu = tt
xors_are (q ∷ qs) (u ∷ us) hq hu = (xor_lt 1 q u hq.0 hu.0, xors_are qs us hq.1 hu.1)

high_stays : (p q : ℕ) → 2 ^ 24 ≤ p → q < 2 → 2 ^ 24 ≤ bit_xor (p * 2) (q * generator)
high_stays p q hp hq =
    let z : q * generator / 2 ^ 25 ≡ 0 = omega arith in
    let e : bit_xor (p * 2) (q * generator) / 2 ^ 25 ≡ p * 2 / 2 ^ 25
    = xor_shr (p * 2) (q * generator) 25 ∙ ap (bit_xor (p * 2 / 2 ^ 25)) z ∙ xor_zero_r (p * 2 / 2 ^ 25) in
    omega arith

times_high : (qs : List ℕ) (p : ℕ) → 2 ^ 24 ≤ p → AreBits qs → 2 ^ 24 ≤ times p qs generator
unfolding AreBits
times_high [] p hp h = hp
times_high (q ∷ qs) p hp h = times_high qs (bit_xor (p * 2) (q * generator)) (high_stays p q hp h.0) h.1

-- of the multiples of G only 0 has a degree below 24
times_low : (qs : List ℕ) → AreBits qs → times 0 qs generator < 2 ^ 24 → times 0 qs generator ≡ 0
unfolding AreBits
times_low [] h l = refl
times_low (zero ∷ qs) h l = times_low qs h.1 l
times_low (suc zero ∷ qs) h l = absurd (lt_irrefl (2 ^ 24) (lt_of_le_of_lt (times_high qs generator (lit≤ tt) h.1) l))
times_low (suc (suc q) ∷ qs) h l =
    let b : suc (suc q) < 2 = h.0 in
    absurd (omega arith)

pub division_unique : (xs q : List ℕ) (r : ℕ) → Divided xs q r → r ≡ remainder xs
division_unique xs q r d =
    let (v, w) = division xs in
    let s = remainder xs in
    let p = times 0 q generator in
    let p' = times 0 v generator in
    let n = number 0 (bits xs) * 2 ^ 24 in
    let z : bit_xor (bit_xor p p') (bit_xor r s) ≡ 0
    = xor4 p p' r s ∙ ap₂ bit_xor (sym d.whole) (sym w.whole) ∙ xor_self n in
    let e : bit_xor r s ≡ times 0 (xors q v) generator
    = xor_zero (bit_xor p p') (bit_xor r s) z
    ∙ times_linear q v 0 0 generator (d.as_many ∙ sym w.as_many) d.coefficients w.coefficients in
    let l : times 0 (xors q v) generator < 2 ^ 24 = subst (λ (x : ℕ). x < 2 ^ 24) e (xor_lt 24 r s d.low w.low) in
    sym (xor_zero r s (e ∙ times_low (xors q v) (xors_are q v d.coefficients w.coefficients) l))
