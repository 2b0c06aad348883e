-- The remainder a byte at a time, for strings of any length.
--     remainder_more    one byte more: eight places on, and the byte's own remainder
--     remainder_next    the same, with the eight coefficients that pass x^24 divided together with the byte
-- Assumes nothing.
use mathlib.Core.Path.{◌≡◌, refl, sym, ap, ap₂, ◌∙◌}
use mathlib.Core.Bool.{Bool}
use mathlib.Core.List.{List, [], ◌∷◌, ◌++◌}
use Prim.Native.Nat.{ℕ, zero, suc, ◌+◌, ◌*◌, ◌/◌, ◌%◌, ◌^◌, ◌<◌, ◌≤◌}
use native.Mathlib.Nat.{mul_assoc, mul_comm, pow-suc, le-mul_of_pos_right, add-zero, mul-one}
use native.Mathlib.Omega.{arith}
use lib.ListN.{replicate, replicate-append-replicate}
use lib.Dec.{eqb, eqb→eq}
use lib.Pow.{pow_pos, split}
use lib.Bits.{bit_xor, xor_comm, xor_shifted, xor_zero_r}
use Rattle.lists.proofs.Test.{below}
use Rattle.lists.proofs.Xor.{xor_assoc}
use Rattle.annex10.specs.Remainder.{divide, bits_of, bits, remainder}
use Rattle.annex10.proofs.Linear.{bring_small, divide_lt, divide_append, divide_linear, bits_append, are_bits, are_zeros, xors_zeros, remainder_lt, remainder_linear}

-- times x^n
abbrev pub shift : ℕ → ℕ → ℕ
shift n r = divide r (replicate n 0)

pub shift_shift : (n m r : ℕ) → shift n (shift m r) ≡ shift (m + n) r
shift_shift n m r = sym (divide_append (replicate m 0) (replicate n 0) r) ∙ ap (divide r) (replicate-append-replicate m n 0)

pub shift_linear : (n r s : ℕ) → r < 2 ^ 24 → s < 2 ^ 24 → shift n (bit_xor r s) ≡ bit_xor (shift n r) (shift n s)
shift_linear n r s hr hs =
    ap (divide (bit_xor r s)) (sym (xors_zeros n)) ∙ divide_linear (replicate n 0) (replicate n 0) r s refl (are_zeros n) (are_zeros n) hr hs

pub shift_lt : (n r : ℕ) → r < 2 ^ 24 → shift n r < 2 ^ 24
shift_lt n r h = divide_lt (replicate n 0) r (are_zeros n) h

pub shift_small : (n r : ℕ) → r * 2 ^ n < 2 ^ 24 → shift n r ≡ r * 2 ^ n
shift_small zero r h = sym (mul-one r)
shift_small (suc n) r h =
    let e : r * 2 ^ suc n ≡ r * 2 * 2 ^ n
    = ap (λ (x : ℕ). r * x) (pow-suc 2 n ∙ mul_comm (2 ^ n) 2) ∙ sym (mul_assoc r 2 (2 ^ n)) in
    let l : r * 2 ≤ r * 2 * 2 ^ n = le-mul_of_pos_right (r * 2) (pow_pos n) in
    let s : r * 2 + 0 ≡ r * 2 = add-zero (r * 2) in
    ap (shift n) (bring_small r 0 (omega arith) ∙ s)
    ∙ shift_small n (r * 2) (omega arith) ∙ sym e

-- a byte's own bits, with nothing to take away
byte_test : ℕ → Bool
byte_test h = eqb (divide 0 (bits_of 8 h)) h

byte_value : (h : ℕ) → h < 256 → divide 0 (bits_of 8 h) ≡ h
unfolding byte_test
byte_value h l = eqb→eq (divide 0 (bits_of 8 h)) h (below 256 byte_test tt h l)

pub remainder_byte : (h : ℕ) → h < 256 → remainder (h ∷ []) ≡ shift 24 h
unfolding remainder
remainder_byte h l = divide_append (bits_of 8 h ++ []) (replicate 24 0) 0 ∙ ap (shift 24) (byte_value h l)

-- one byte more, whatever it is
pub remainder_more : (xs : List ℕ) (b : ℕ) → remainder (xs ++ (b ∷ [])) ≡ bit_xor (shift 8 (remainder xs)) (remainder (b ∷ []))
unfolding remainder
remainder_more xs b =
    let s = divide 0 (bits xs) in
    let q = bits (b ∷ []) in
    let hs : s < 2 ^ 24 = divide_lt (bits xs) 0 (are_bits xs) (pow_pos 24) in
    ap (λ (l : List ℕ). divide 0 (l ++ replicate 24 0)) (bits_append xs (b ∷ []))
    ∙ divide_append (bits xs ++ q) (replicate 24 0) 0
    ∙ ap (shift 24) (divide_append (bits xs) q 0)
    ∙ ap (λ (x : ℕ). shift 24 (divide x q)) (sym (xor_zero_r s))
    ∙ ap (λ (x : ℕ). shift 24 x) (divide_linear (replicate 8 0) q s 0 refl (are_zeros 8) (are_bits (b ∷ [])) hs (pow_pos 24))
    ∙ shift_linear 24 (shift 8 s) (divide 0 q) (shift_lt 8 s hs) (divide_lt q 0 (are_bits (b ∷ [])) (pow_pos 24))
    ∙ ap₂ bit_xor
    (shift_shift 24 8 s ∙ sym (shift_shift 8 24 s) ∙ ap (shift 8) (sym (divide_append (bits xs) (replicate 24 0) 0)))
    (sym (divide_append q (replicate 24 0) 0))

-- eight places on: what stays below x^24, and the eight coefficients that pass it, divided
shift_byte : (r : ℕ) → r < 2 ^ 24 → shift 8 r ≡ bit_xor (r % 2 ^ 16 * 2 ^ 8) (remainder (r / 2 ^ 16 ∷ []))
shift_byte r hr =
    let h = r / 2 ^ 16 in
    let l = r % 2 ^ 16 in
    let hh : h < 256 = omega arith in
    let hl : l < 2 ^ 16 = omega arith in
    let hs : h * 2 ^ 16 < 2 ^ 24 = omega arith in
    ap (shift 8) (sym (split r 16) ∙ sym (xor_shifted h 16 l hl))
    ∙ shift_linear 8 (h * 2 ^ 16) l hs (omega arith)
    ∙ ap₂ bit_xor
    (ap (shift 8) (sym (shift_small 16 h hs)) ∙ shift_shift 8 16 h ∙ sym (remainder_byte h hh))
    (shift_small 8 l (omega arith))
    ∙ xor_comm (remainder (h ∷ [])) (l * 2 ^ 8)

pub remainder_next : (xs : List ℕ) (b : ℕ)
    → remainder (xs ++ (b ∷ [])) ≡ bit_xor (remainder xs % 2 ^ 16 * 2 ^ 8) (remainder (bit_xor (remainder xs / 2 ^ 16) b ∷ []))
remainder_next xs b =
    let r = remainder xs in
    remainder_more xs b
    ∙ ap (λ (x : ℕ). bit_xor x (remainder (b ∷ []))) (shift_byte r (remainder_lt xs))
    ∙ xor_assoc (r % 2 ^ 16 * 2 ^ 8) (remainder (r / 2 ^ 16 ∷ [])) (remainder (b ∷ []))
    ∙ ap (bit_xor (r % 2 ^ 16 * 2 ^ 8)) (sym (remainder_linear (r / 2 ^ 16 ∷ []) (b ∷ []) refl))

pub remainder_nil : remainder [] ≡ 0
unfolding remainder
remainder_nil = refl
