-- A byte of the division by shifts.
--     shifts_are     the shifts of a byte are its remainder: all 256 are computed
--     row_le         the row of terms is a difference
--     byte_lt        what is divided is a byte
--     brought        what the code computes
--     bring_more     from the remainder of a string to that of the string and one byte more
--     one_byte       WHAT IT IS FOR
--     bring_next     the same in a loop over a string
-- Assumes nothing.
use mathlib.Core.Path.{◌≡◌, refl, sym, ap, ap₂, ◌∙◌}
use mathlib.Core.Bool.{Bool}
use mathlib.Core.List.{List, [], ◌∷◌, ◌++◌}
use Prim.Native.Nat.{ℕ, ◌+◌, ◌-◌, ◌*◌, ◌/◌, ◌%◌, ◌^◌, ◌<◌, ◌≤◌}
use native.Mathlib.Nat.{mod-eq_of_lt}
use native.Mathlib.Numerals.{add-one}
use native.Mathlib.Omega.{arith}
use lib.Dec.{eqb, eqb→eq}
use lib.ListN.{take, get_or, length}
use lib.Seq.{take-suc}
use lib.Bits.{bit_xor, xor_lt, bit_and, and_mask, mask_lt}
use Rattle.lists.proofs.Test.{below}
use Rattle.annex10.specs.Remainder.{remainder}
use Rattle.annex10.specs.Bytes.{bring_byte, OneByteMore}
use Rattle.annex10.proofs.Linear.{remainder_lt}
use Rattle.annex10.proofs.Bytewise.{remainder_next}

-- as the code has it
abbrev pub shifts : ℕ → ℕ
shifts b =
    bit_xor
    (bit_xor
    (bit_xor (bit_xor (b * 2 ^ 11 % 2 ^ 32) (bit_and b 1 * 2 ^ 24 % 2 ^ 32 - bit_and b 1 * 2 ^ 11 % 2 ^ 32)) (bit_xor b (b / 2 ^ 1) * 2 ^ 3 % 2 ^ 32))
    (bit_xor b (b / 2 ^ 1) * 2 ^ 10 % 2 ^ 32))
    (bit_xor b (b / 2 ^ 1))

test : ℕ → Bool
test b = eqb (shifts b) (remainder (b ∷ []))

pub shifts_are : (b : ℕ) → b < 256 → shifts b ≡ remainder (b ∷ [])
unfolding test remainder
shifts_are b h = eqb→eq _ _ (below 256 test tt b h)

pub row_le : (b : ℕ) → bit_and b 1 * 2 ^ 11 % 2 ^ 32 ≤ bit_and b 1 * 2 ^ 24 % 2 ^ 32
row_le b =
    let two : bit_and b 1 < 2 = mask_lt b 1 in
    let low : bit_and b 1 * 2 ^ 11 % 2 ^ 32 ≡ bit_and b 1 * 2 ^ 11 = mod-eq_of_lt (omega arith) in
    let high : bit_and b 1 * 2 ^ 24 % 2 ^ 32 ≡ bit_and b 1 * 2 ^ 24 = mod-eq_of_lt (omega arith) in
    omega arith

pub byte_lt : (crc b : ℕ) → b < 256 → bit_xor (bit_and (crc / 2 ^ 16) 255) b < 256
byte_lt crc b h = xor_lt 8 (bit_and (crc / 2 ^ 16) 255) b (mask_lt (crc / 2 ^ 16) 8) h

pub brought : (crc b r : ℕ) → r ≡ remainder (bit_xor (bit_and (crc / 2 ^ 16) 255) b ∷ [])
    → bit_xor (bit_and crc (2 ^ 16 - 1) * 2 ^ 8 % 2 ^ 32) r ≡ bring_byte crc b
unfolding bring_byte
brought crc b r e =
    let m : crc % 2 ^ 16 * 2 ^ 8 < 2 ^ 32 = omega arith in
    ap₂ bit_xor (ap (λ (x : ℕ). x * 2 ^ 8 % 2 ^ 32) (and_mask crc 16) ∙ mod-eq_of_lt m)
    (e ∙ ap (λ (x : ℕ). remainder (bit_xor x b ∷ [])) (and_mask (crc / 2 ^ 16) 8))

pub bring_more : (xs : List ℕ) (crc b : ℕ) → crc ≡ remainder xs → bring_byte crc b ≡ remainder (xs ++ (b ∷ []))
unfolding bring_byte
bring_more xs crc b e =
    let l = remainder_lt xs in
    let q : crc / 2 ^ 16 % 2 ^ 8 ≡ crc / 2 ^ 16 = omega arith in
    ap (λ (x : ℕ). bit_xor (crc % 2 ^ 16 * 2 ^ 8) (remainder (bit_xor x b ∷ []))) q
    ∙ ap (λ (r : ℕ). bit_xor (r % 2 ^ 16 * 2 ^ 8) (remainder (bit_xor (r / 2 ^ 16) b ∷ []))) e
    ∙ sym (remainder_next xs b)

pub one_byte : OneByteMore
one_byte = record { step = λ xs b. bring_more xs (remainder xs) b refl }

pub bring_next : (xs : List ℕ) (i crc : ℕ) → i < length xs → crc ≡ remainder (take i xs) → bring_byte crc (get_or xs i 0) ≡ remainder (take (i + 1) xs)
bring_next xs i crc l e =
    bring_more (take i xs) crc (get_or xs i 0) e ∙ ap remainder (sym (take-suc xs i 0 l) ∙ ap (λ (n : ℕ). take n xs) (sym (add-one i)))
