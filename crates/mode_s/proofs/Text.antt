-- The bytes of an AVR line, one by one.
-- Assumes nothing.
use mathlib.Core.Path.{◌≡◌, refl, sym, ap, ◌∙◌}
use mathlib.Core.List.{List, [], ◌∷◌, ◌++◌}
use mathlib.Core.Logic.{◌≢◌}
use Prim.Native.Nat.{ℕ, zero, suc, ◌+◌, ◌-◌, ◌*◌, ◌/◌, ◌%◌, ◌<◌}
use native.Mathlib.Omega.{arith}
use lib.ListN.{length, get_or, length-append, get_or-append}
use lib.Seq.{get_or-append-add}
use Rattle.lists.specs.From.{from, tabulate}
use Rattle.lists.proofs.Table.{tabulate_is}
use Rattle.mode_s.specs.Avr.{hex_digit, hex_text, avr_text}
use Rattle.mode_s.specs.Inner.{avr_byte}

-- the digits of 0 to 15 are those of 0123456789ABCDEF
abbrev pub digits : List ℕ
digits = 0x30 ∷ 0x31 ∷ 0x32 ∷ 0x33 ∷ 0x34 ∷ 0x35 ∷ 0x36 ∷ 0x37 ∷ 0x38 ∷ 0x39 ∷ 0x41 ∷ 0x42 ∷ 0x43 ∷ 0x44 ∷ 0x45 ∷ 0x46 ∷ []

pub digits_are : tabulate 16 hex_digit ≡ digits
unfolding tabulate from hex_digit
digits_are = refl

length_hex : (m : List ℕ) → length (hex_text m) ≡ 2 * length m
unfolding hex_text
length_hex [] = refl
length_hex (x ∷ m) = let e = length_hex m in omega arith

pub length_avr : (m : List ℕ) → length (avr_text m) ≡ 2 * length m + 2
unfolding avr_text
length_avr m = ap suc (length-append (hex_text m) (59 ∷ []) ∙ ap (λ (n : ℕ). n + 1) (length_hex m)) ∙ omega arith

-- two digits for each byte
hex_high : (m : List ℕ) (k i : ℕ) → k < length m → i ≡ 2 * k → get_or (hex_text m) i 0 ≡ hex_digit (get_or m k 0 / 16)
unfolding hex_text
hex_high [] k i h e = absurd (omega arith)
hex_high (x ∷ m) zero zero h e = refl
hex_high (x ∷ m) zero (suc i) h e = absurd (omega arith)
hex_high (x ∷ m) (suc k) zero h e = absurd (omega arith)
hex_high (x ∷ m) (suc k) (suc zero) h e = absurd (omega arith)
hex_high (x ∷ m) (suc k) (suc (suc i)) h e = hex_high m k i (omega arith) (omega arith)

hex_low : (m : List ℕ) (k i : ℕ) → k < length m → i ≡ 2 * k + 1 → get_or (hex_text m) i 0 ≡ hex_digit (get_or m k 0 % 16)
unfolding hex_text
hex_low [] k i h e = absurd (omega arith)
hex_low (x ∷ m) zero zero h e = absurd (omega arith)
hex_low (x ∷ m) zero (suc zero) h e = refl
hex_low (x ∷ m) zero (suc (suc i)) h e = absurd (omega arith)
hex_low (x ∷ m) (suc k) zero h e = absurd (omega arith)
hex_low (x ∷ m) (suc k) (suc zero) h e = absurd (omega arith)
hex_low (x ∷ m) (suc k) (suc (suc i)) h e = hex_low m k i (omega arith) (omega arith)

-- behind the star
behind : (m : List ℕ) (i j : ℕ) → i ≡ suc j → avr_byte m i ≡ get_or (hex_text m ++ (59 ∷ [])) j 0
unfolding avr_byte avr_text
behind m i j e = ap (λ (n : ℕ). get_or (42 ∷ (hex_text m ++ (59 ∷ []))) n 0) e

pub avr_star : (m : List ℕ) (i : ℕ) → i ≡ 0 → 42 ≡ avr_byte m i
unfolding avr_byte avr_text
avr_star m i e = sym (ap (λ (n : ℕ). get_or (42 ∷ (hex_text m ++ (59 ∷ []))) n 0) e)

pub avr_end : (m : List ℕ) (i : ℕ) → i ≢ 0 → i < 2 * length m + 2 → (i - 1) / 2 ≡ length m → 59 ≡ avr_byte m i
avr_end m i n h e =
    let q : i ≡ suc (length (hex_text m) + 0) = omega (arith, length_hex m) in
    sym (behind m i (length (hex_text m) + 0) q ∙ get_or-append-add (hex_text m) (59 ∷ []) 0 0)

pub avr_high : (m : List ℕ) (i : ℕ) → i ≢ 0 → (i - 1) / 2 < length m → i % 2 ≡ 1 → hex_digit (get_or m ((i - 1) / 2) 0 / 16) ≡ avr_byte m i
avr_high m i n h e =
    let k = (i - 1) / 2 in
    let q : i ≡ suc (2 * k) = omega arith in
    let l : 2 * k < length (hex_text m) = omega (arith, length_hex m) in
    sym (behind m i (2 * k) q ∙ get_or-append (hex_text m) (59 ∷ []) 0 (2 * k) l ∙ hex_high m k (2 * k) h refl)

pub avr_low : (m : List ℕ) (i : ℕ) → i ≢ 0 → (i - 1) / 2 < length m → i % 2 ≢ 1 → hex_digit (get_or m ((i - 1) / 2) 0 % 16) ≡ avr_byte m i
avr_low m i n h e =
    let k = (i - 1) / 2 in
    let q : i ≡ suc (2 * k + 1) = omega arith in
    let l : 2 * k + 1 < length (hex_text m) = omega (arith, length_hex m) in
    sym (behind m i (2 * k + 1) q ∙ get_or-append (hex_text m) (59 ∷ []) 0 (2 * k + 1) l ∙ hex_low m k (2 * k + 1) h refl)

-- all of them are the line
pub avr_whole : (m : List ℕ) → tabulate (2 * length m + 2) (avr_byte m) ≡ avr_text m
unfolding avr_byte
avr_whole m = sym (tabulate_is 0 (avr_byte m) (2 * length m + 2) (avr_text m) (length_avr m) (λ k h. refl))
