-- Fields read back: what a field says is fixed by its bytes.
-- Assumes nothing.
use mathlib.Core.Path.{◌≡◌, refl, sym, ap, ◌∙◌}
use mathlib.Core.Bool.{Bool, true, false, cond}
use mathlib.Core.List.{List, [], ◌∷◌, ◌++◌, foldl, foldl-append, append-nil, head-eq_of_cons-eq, tail-eq_of_cons-eq}
use Prim.Native.Nat.{ℕ, zero, suc, ◌+◌, ◌-◌, ◌*◌, ◌/◌, ◌%◌, ◌^◌, ◌<◌}
use native.Mathlib.Nat.{pow-succ'}
use native.Mathlib.Omega.{arith}
use borrow.Author.Tests.{lt-ltb, le-ltb, ltb-true, ltb-false}
use lib.Dec.{ltb, T}
use lib.Ieee.{Float, binary32, fits, of_bits, to_bits}
use lib.Ieee.Bits.{of_bits-to_bits, to_bits-lt}
use lib.ListN.{get_or}
use Rattle.annex10.specs.declared.Repairs.{Repairs}
use Rattle.annex10.specs.declared.Repairs.TheVariants.{None, One, Two}
use Rattle.place.specs.declared.Slicer.{Slicer}
use Rattle.place.specs.declared.Slicer.TheVariants.{Coherent, Noncoherent}
use Rattle.mode_s.specs.Avr.{hex_digit, hex_text, avr_text}
use Rattle.listing.specs.Fields.{decimal_in, decimal, hex_word, float_text, repairs_text, slicer_text}
use Rattle.listing.proofs.Lengths.{InBytes}
use Rattle.listing.proofs.Split.{spaced_same}
use Rattle.listing.proofs.Visible.{digits_above}

-- ---- decimal digits

-- the number that digits write, the first highest
abbrev pub written : List ℕ → ℕ
written = foldl (λ (v d : ℕ). v * 10 + (d - 48)) 0

digits_back : (places n : ℕ) → n < 10 ^ places → written (decimal_in places n) ≡ n
unfolding decimal_in
digits_back zero n h = omega arith
digits_back (suc places) n h = go (ltb n 10) refl (digits_back places (n / 10) (omega (arith, pow-succ' 10 places)))
  where
    go : (b : Bool) → ltb n 10 ≡ b → written (decimal_in places (n / 10)) ≡ n / 10
        → written (cond b ((48 + n) ∷ []) (decimal_in places (n / 10) ++ ((48 + n % 10) ∷ []))) ≡ n
    go true e q = omega arith
    go false e q = rw (foldl-append (λ (v d : ℕ). v * 10 + (d - 48)) 0 (decimal_in places (n / 10)) ((48 + n % 10) ∷ [])) (omega arith)

pub decimal_back : (n : ℕ) → n < 2 ^ 64 → written (decimal n) ≡ n
unfolding decimal
decimal_back n h = digits_back 20 n (omega arith)

pub decimal_same : (m n : ℕ) → m < 2 ^ 64 → n < 2 ^ 64 → decimal m ≡ decimal n → m ≡ n
decimal_same m n h k e = sym (decimal_back m h) ∙ ap written e ∙ decimal_back n k

-- ---- hex digits

abbrev digit_value : ℕ → ℕ
digit_value d = cond (ltb d 65) (d - 48) (d - 55)

digit_back : (n : ℕ) → n < 16 → digit_value (hex_digit n) ≡ n
unfolding hex_digit
digit_back n h = go (ltb n 10) refl
  where
    go : (b : Bool) → ltb n 10 ≡ b → digit_value (cond b (48 + n) (65 + (n - 10))) ≡ n
    go true e = rw (lt-ltb (48 + n) 65 (omega (arith, ltb-true))) (omega arith)
    go false e = rw (le-ltb (65 + (n - 10)) 65 (omega arith)) (omega (arith, ltb-false))

-- the bytes that pairs of digits write; a last byte alone counts as none
abbrev bytes_of : List ℕ → List ℕ
bytes_of [] = []
bytes_of (h ∷ []) = []
bytes_of (h ∷ l ∷ ds) = (16 * digit_value h + digit_value l) ∷ bytes_of ds

hex_back : (xs t : List ℕ) → ((k : ℕ) → get_or xs k 0 < 256) → bytes_of (hex_text xs ++ t) ≡ xs ++ bytes_of t
unfolding hex_text
hex_back [] t h = refl
hex_back (x ∷ xs) t h =
    let i = h 0 in
    let e : 16 * digit_value (hex_digit (x / 16)) + digit_value (hex_digit (x % 16)) ≡ x = omega (arith, digit_back (x / 16) (omega arith), digit_back (x % 16) (omega arith)) in
    rw (e, hex_back xs t (λ k. h (suc k)))

pub avr_same : (m n : List ℕ) → ((k : ℕ) → get_or m k 0 < 256) → ((k : ℕ) → get_or n k 0 < 256) → avr_text m ≡ avr_text n → m ≡ n
unfolding avr_text
avr_same m n h k e = sym (append-nil m) ∙ sym (hex_back m (59 ∷ []) h) ∙ ap bytes_of (tail-eq_of_cons-eq e) ∙ hex_back n (59 ∷ []) k ∙ append-nil n

-- ---- floats

-- the number that bytes write, the first highest
abbrev big_endian : List ℕ → ℕ
big_endian = foldl (λ (v b : ℕ). v * 256 + b) 0

-- the four bytes of a number of 32 bits
four : (n : ℕ) → n < 2 ^ 32 → (k : ℕ) → get_or (n / 2 ^ 24 ∷ n / 2 ^ 16 % 256 ∷ n / 2 ^ 8 % 256 ∷ n % 256 ∷ []) k 0 < 256
four n h zero = omega arith
four n h (suc zero) = omega arith
four n h (suc (suc zero)) = omega arith
four n h (suc (suc (suc zero))) = omega arith
four n h (suc (suc (suc (suc k)))) = omega arith

word_back : (n : ℕ) → n < 2 ^ 32 → big_endian (bytes_of (hex_word n)) ≡ n
unfolding hex_word
word_back n h = ap big_endian (ap bytes_of (sym (append-nil (hex_word n))) ∙ hex_back _ [] (four n h)) ∙ omega arith

float_back : (x : Float) → T (fits binary32 x) → of_bits binary32 (big_endian (bytes_of (float_text x))) ≡ x
unfolding float_text
float_back x h = ap (of_bits binary32) (word_back (to_bits binary32 x) (to_bits-lt binary32 x h)) ∙ of_bits-to_bits binary32 x h

pub float_same : (x y : Float) → T (fits binary32 x) → T (fits binary32 y) → float_text x ≡ float_text y → x ≡ y
float_same x y h k e = sym (float_back x h) ∙ ap (λ (t : List ℕ). of_bits binary32 (big_endian (bytes_of t))) e ∙ float_back y k

-- ---- repairs and slicer

abbrev first : List ℕ → ℕ
first xs = get_or xs 0 0

pub repairs_same : (ρ σ : Repairs) → InBytes ρ → InBytes σ → repairs_text ρ ≡ repairs_text σ → ρ ≡ σ
unfolding repairs_text
repairs_same None None h k e = refl
repairs_same (One j) (One i) h k e = ap One (decimal_same j i (omega arith) (omega arith) (tail-eq_of_cons-eq (tail-eq_of_cons-eq e)))
repairs_same (Two j k) (Two i l) h g e =
    let both = spaced_same 0x2C (decimal j) (decimal i) (decimal k ∷ []) (decimal l ∷ []) (digits_above 0x2C j (omega arith), (digits_above 0x2C k (omega arith), tt)) (digits_above 0x2C i (omega arith), (digits_above 0x2C l (omega arith), tt)) (tail-eq_of_cons-eq (tail-eq_of_cons-eq e)) in
    let p : j ≡ i = decimal_same j i (omega arith) (omega arith) (head-eq_of_cons-eq both) in
    let q : k ≡ l = decimal_same k l (omega arith) (omega arith) (head-eq_of_cons-eq (tail-eq_of_cons-eq both)) in
    rw (p, q)
repairs_same None (One i) h k e = absurd (omega (arith, ap first e))
repairs_same None (Two i l) h k e = absurd (omega (arith, ap first e))
repairs_same (One j) None h k e = absurd (omega (arith, ap first e))
repairs_same (One j) (Two i l) h k e = absurd (omega (arith, ap first e))
repairs_same (Two j k) None h g e = absurd (omega (arith, ap first e))
repairs_same (Two j k) (One i) h g e = absurd (omega (arith, ap first e))

pub slicer_same : (s t : Slicer) → slicer_text s ≡ slicer_text t → s ≡ t
unfolding slicer_text
slicer_same Coherent Coherent e = refl
slicer_same Coherent Noncoherent e = absurd (omega (arith, ap first e))
slicer_same Noncoherent Coherent e = absurd (omega (arith, ap first e))
slicer_same Noncoherent Noncoherent e = refl
