-- The division step by step: it is linear over xor, and what is left is below 2^24. For strings of any length.
--     remainder_linear   the remainder of the xor of two strings of equal length is the xor of their remainders
--     remainder_lt       it is below 2^24
-- Assumes nothing.
use mathlib.Core.Path.{◌≡◌, refl, sym, ap, ap₂, ◌∙◌, subst}
use mathlib.Core.List.{List, [], ◌∷◌, ◌++◌, append_assoc}
use Prim.Native.Nat.{ℕ, zero, suc, ◌+◌, ◌*◌, ◌/◌, ◌%◌, ◌^◌, ◌<◌}
use native.Mathlib.Nat.{mod-lt, zero-lt-suc, le_of_suc-le-suc, not-suc-le-zero, zero-add}
use native.Mathlib.Omega.{arith}
use lib.ListN.{length, replicate, length-append}
use lib.Dec.{lit<}
use lib.Pow.{pow_pos, split}
use lib.Bits.{bit_xor, xor_block, xor_shr, xor_mod, xor_lt, xor_comm, xor_self, xor_zero_r}
use Rattle.lists.proofs.Xor.{xor_assoc, xor4}
use Rattle.annex10.specs.Remainder.{generator, less, bring, divide, bits_of, bits, remainder}
use Rattle.annex10.specs.Division.{AreBits, xors}

-- ---- one step

no_two : {c : ℕ} {A : Type 0} → suc (suc c) < 2 → A
no_two h = absurd (not-suc-le-zero (le_of_suc-le-suc (le_of_suc-le-suc h)))

less_linear : (c d t u : ℕ) → c < 2 → d < 2 → less (bit_xor c d) (bit_xor t u) ≡ bit_xor (less c t) (less d u)
less_linear zero zero t u hc hd = refl
less_linear zero (suc zero) t u hc hd = xor_assoc t u generator
less_linear (suc zero) zero t u hc hd =
    xor_assoc t u generator ∙ ap (bit_xor t) (xor_comm u generator) ∙ sym (xor_assoc t generator u)
less_linear (suc zero) (suc zero) t u hc hd =
    sym (xor4 t generator u generator ∙ ap (bit_xor (bit_xor t u)) (xor_self generator) ∙ xor_zero_r (bit_xor t u))
less_linear zero (suc (suc d)) t u hc hd = no_two hd
less_linear (suc zero) (suc (suc d)) t u hc hd = no_two hd
less_linear (suc (suc c)) d t u hc hd = no_two hc

-- a remainder and one bit more
next_lt : {r b : ℕ} → r < 2 ^ 24 → b < 2 → r * 2 + b < 2 ^ 25
next_lt hr hb = omega arith

top_lt : {t : ℕ} → t < 2 ^ 25 → t / 2 ^ 24 < 2
top_lt h = omega arith

pub bring_linear : (r s b c : ℕ) → r < 2 ^ 24 → s < 2 ^ 24 → b < 2 → c < 2
    → bring (bit_xor r s) (bit_xor b c) ≡ bit_xor (bring r b) (bring s c)
bring_linear r s b c hr hs hb hc =
    ap (λ (t : ℕ). less (t / 2 ^ 24) t) (sym (xor_block 1 r s b c hb hc))
    ∙ ap (λ (x : ℕ). less x (bit_xor (r * 2 + b) (s * 2 + c))) (xor_shr (r * 2 + b) (s * 2 + c) 24)
    ∙ less_linear ((r * 2 + b) / 2 ^ 24) ((s * 2 + c) / 2 ^ 24) (r * 2 + b) (s * 2 + c)
    (top_lt (next_lt hr hb)) (top_lt (next_lt hs hc))

less_lt : (c t : ℕ) → c ≡ t / 2 ^ 24 → t < 2 ^ 25 → less c t < 2 ^ 24
less_lt zero t e h = omega arith
less_lt (suc zero) t e h =
    subst (λ (x : ℕ). x < 2 ^ 24)
    (sym (ap (λ (x : ℕ). bit_xor x generator) (sym (split t 24) ∙ ap (λ (x : ℕ). x * 2 ^ 24 + t % 2 ^ 24) (sym e))
    ∙ xor_block 24 1 1 (t % 2 ^ 24) 0xFFF409 (mod-lt t (pow_pos 24)) (lit< tt) ∙ zero-add (bit_xor (t % 2 ^ 24) 0xFFF409)))
    (xor_lt 24 (t % 2 ^ 24) 0xFFF409 (mod-lt t (pow_pos 24)) (lit< tt))
less_lt (suc (suc c)) t e h = absurd (omega arith)

pub bring_lt : (r b : ℕ) → r < 2 ^ 24 → b < 2 → bring r b < 2 ^ 24
bring_lt r b hr hb = less_lt ((r * 2 + b) / 2 ^ 24) (r * 2 + b) refl (next_lt hr hb)

-- nothing to take away
pub bring_small : (r b : ℕ) → r * 2 + b < 2 ^ 24 → bring r b ≡ r * 2 + b
bring_small r b h =
    let e : (r * 2 + b) / 2 ^ 24 ≡ 0 = omega arith in
    ap (λ (x : ℕ). less x (r * 2 + b)) e

-- ---- lists of bits

pub divide_lt : (bs : List ℕ) (r : ℕ) → AreBits bs → r < 2 ^ 24 → divide r bs < 2 ^ 24
unfolding AreBits
divide_lt [] r h hr = hr
divide_lt (b ∷ bs) r h hr = divide_lt bs (bring r b) h.1 (bring_lt r b hr h.0)

pub divide_append : (ps bs : List ℕ) (r : ℕ) → divide r (ps ++ bs) ≡ divide (divide r ps) bs
divide_append [] bs r = refl
divide_append (a ∷ ps) bs r = divide_append ps bs (bring r a)

pub divide_linear : (ps bs : List ℕ) (r s : ℕ) → length ps ≡ length bs → AreBits ps → AreBits bs → r < 2 ^ 24 → s < 2 ^ 24
    → divide (bit_xor r s) (xors ps bs) ≡ bit_xor (divide r ps) (divide s bs)
unfolding AreBits
divide_linear [] [] r s e ha hb hr hs = refl
divide_linear [] (b ∷ bs) r s e ha hb hr hs = absurd (omega arith)
divide_linear (a ∷ ps) [] r s e ha hb hr hs = absurd (omega arith)
divide_linear (a ∷ ps) (b ∷ bs) r s e ha hb hr hs =
    ap (λ (x : ℕ). divide x (xors ps bs)) (bring_linear r s a b hr hs ha.0 hb.0)
    ∙ divide_linear ps bs (bring r a) (bring s b) (omega arith) ha.1 hb.1 (bring_lt r a hr ha.0) (bring_lt s b hs hb.0)

pub bits_append : (ps bs : List ℕ) → bits (ps ++ bs) ≡ bits ps ++ bits bs
bits_append [] bs = refl
bits_append (a ∷ ps) bs = ap (λ (l : List ℕ). bits_of 8 a ++ l) (bits_append ps bs) ∙ sym (append_assoc (bits_of 8 a) (bits ps) (bits bs))

pub are_append : (ps bs : List ℕ) → AreBits ps → AreBits bs → AreBits (ps ++ bs)
unfolding AreBits
are_append [] bs ha hb = hb
are_append (a ∷ ps) bs ha hb = (ha.0, are_append ps bs ha.1 hb)

are_bits_of : (n x : ℕ) → AreBits (bits_of n x)
unfolding AreBits
are_bits_of zero x = tt
are_bits_of (suc n) x = (mod-lt (x / 2 ^ n) (zero-lt-suc 1), are_bits_of n x)

pub are_bits : (xs : List ℕ) → AreBits (bits xs)
unfolding AreBits
are_bits [] = tt
are_bits (x ∷ xs) = are_append (bits_of 8 x) (bits xs) (are_bits_of 8 x) (are_bits xs)

pub are_zeros : (n : ℕ) → AreBits (replicate n 0)
unfolding AreBits
are_zeros zero = tt
are_zeros (suc n) = (zero-lt-suc 1, are_zeros n)

length_bits_of : (n x : ℕ) → length (bits_of n x) ≡ n
length_bits_of zero x = refl
length_bits_of (suc n) x = ap suc (length_bits_of n x)

pub length_bits : (ps qs : List ℕ) → length ps ≡ length qs → length (bits ps) ≡ length (bits qs)
length_bits [] [] e = refl
length_bits [] (q ∷ qs) e = absurd (omega arith)
length_bits (p ∷ ps) [] e = absurd (omega arith)
length_bits (p ∷ ps) (q ∷ qs) e =
    length-append (bits_of 8 p) (bits ps)
    ∙ ap (λ (n : ℕ). 8 + n) (length_bits ps qs (omega arith))
    ∙ sym (length-append (bits_of 8 q) (bits qs))

xors_append : (ps qs us vs : List ℕ) → length ps ≡ length qs → xors (ps ++ us) (qs ++ vs) ≡ xors ps qs ++ xors us vs
xors_append [] [] us vs e = refl
xors_append [] (q ∷ qs) us vs e = absurd (omega arith)
xors_append (p ∷ ps) [] us vs e = absurd (omega arith)
xors_append (p ∷ ps) (q ∷ qs) us vs e = ap (λ (l : List ℕ). bit_xor p q ∷ l) (xors_append ps qs us vs (omega arith))

xors_bits_of : (n x y : ℕ) → bits_of n (bit_xor x y) ≡ xors (bits_of n x) (bits_of n y)
xors_bits_of zero x y = refl
xors_bits_of (suc n) x y =
    ap₂ (λ (b : ℕ) (l : List ℕ). b ∷ l)
    (ap (λ (z : ℕ). z % 2) (xor_shr x y n) ∙ xor_mod (x / 2 ^ n) (y / 2 ^ n) 1)
    (xors_bits_of n x y)

xors_bits : (ps qs : List ℕ) → length ps ≡ length qs → bits (xors ps qs) ≡ xors (bits ps) (bits qs)
xors_bits [] qs e = refl
xors_bits (p ∷ ps) [] e = absurd (omega arith)
xors_bits (p ∷ ps) (q ∷ qs) e =
    ap₂ (λ (k l : List ℕ). k ++ l) (xors_bits_of 8 p q) (xors_bits ps qs (omega arith))
    ∙ sym (xors_append (bits_of 8 p) (bits_of 8 q) (bits ps) (bits qs) refl)

pub xors_zeros : (n : ℕ) → xors (replicate n 0) (replicate n 0) ≡ replicate n 0
xors_zeros zero = refl
xors_zeros (suc n) = ap (λ (l : List ℕ). 0 ∷ l) (xors_zeros n)

-- ---- the remainder

pub remainder_lt : (xs : List ℕ) → remainder xs < 2 ^ 24
unfolding remainder
remainder_lt xs = divide_lt (bits xs ++ replicate 24 0) 0 (are_append (bits xs) (replicate 24 0) (are_bits xs) (are_zeros 24)) (pow_pos 24)

-- the remainder of a sum is the sum of the remainders
pub remainder_linear : (xs ys : List ℕ) → length xs ≡ length ys → remainder (xors xs ys) ≡ bit_xor (remainder xs) (remainder ys)
unfolding remainder
remainder_linear xs ys e =
    ap (divide 0)
    (ap (λ (l : List ℕ). l ++ replicate 24 0) (xors_bits xs ys e)
    ∙ sym (xors_append (bits xs) (bits ys) (replicate 24 0) (replicate 24 0) (length_bits xs ys e)))
    ∙ divide_linear (bits xs ++ replicate 24 0) (bits ys ++ replicate 24 0) 0 0
    (length-append (bits xs) (replicate 24 0) ∙ ap (λ (n : ℕ). n + 24) (length_bits xs ys e) ∙ sym (length-append (bits ys) (replicate 24 0)))
    (are_append (bits xs) (replicate 24 0) (are_bits xs) (are_zeros 24))
    (are_append (bits ys) (replicate 24 0) (are_bits ys) (are_zeros 24))
    (pow_pos 24) (pow_pos 24)
