-- The remainder of a string of bits, one bit on: what leaves and what enters is put right. f is a bit for each place.
--     rolled     times x; plus the bit that enters, times x^24; plus the bit that leaves, times x^24 and the length
-- Assumes nothing.
use mathlib.Core.Path.{◌≡◌, refl, sym, ap, ap₂, ◌∙◌}
use mathlib.Core.List.{List, ◌∷◌, ◌++◌}
use Prim.Native.Nat.{ℕ, zero, suc, ◌+◌, ◌*◌, ◌^◌, ◌<◌}
use native.Mathlib.Nat.{add-zero, add-suc, zero-add, lt_trans}
use native.Mathlib.Omega.{arith}
use lib.Dec.{lit<}
use lib.ListN.{length, replicate}
use lib.Pow.{pow_pos}
use lib.Bits.{bit_xor, xor_comm, xor_zero_r, xor_lt}
use Rattle.lists.specs.From.{from, tabulate}
use Rattle.lists.specs.Bits.{value, packed}
use Rattle.lists.proofs.Bits.{value_bit}
use Rattle.lists.proofs.Members.{from_append}
use Rattle.lists.proofs.Xor.{xor_back}
use Rattle.annex10.specs.Remainder.{bring, divide, bits_of, bits, remainder}
use Rattle.annex10.specs.Division.{AreBits, xors}
use Rattle.annex10.proofs.Linear.{bring_linear, bring_small, divide_append, divide_linear, divide_lt, are_zeros}
use Rattle.annex10.proofs.Bytewise.{shift, shift_shift, shift_linear, shift_lt}

-- ---- lists of bits that are given by their places

from_later : (f : ℕ → ℕ) (o k n : ℕ) → from (λ (j : ℕ). f (o + j)) k n ≡ from f (o + k) n
unfolding from
from_later f o k zero = refl
from_later f o k (suc n) = ap (λ (l : List ℕ). f (o + k) ∷ l) (from_later f o (suc k) n ∙ ap (λ (i : ℕ). from f i n) (add-suc o k))

length_from : (f : ℕ → ℕ) (k n : ℕ) → length (from f k n) ≡ n
unfolding from
length_from f k zero = refl
length_from f k (suc n) = ap suc (length_from f (suc k) n)

length_zeros : (n : ℕ) → length {A = ℕ} (replicate n 0) ≡ n
length_zeros zero = refl
length_zeros (suc n) = ap suc (length_zeros n)

-- nothing is added
xors_nothing : (f : ℕ → ℕ) (k n : ℕ) → xors (replicate n 0) (from f k n) ≡ from f k n
unfolding from
xors_nothing f k zero = refl
xors_nothing f k (suc n) = ap (λ (l : List ℕ). f k ∷ l) (xors_nothing f (suc k) n)

module _ (f : ℕ → ℕ) (bit : (i : ℕ) → f i < 2) where
  are_from : (k n : ℕ) → AreBits (from f k n)
  unfolding AreBits from
  are_from k zero = tt
  are_from k (suc n) = (bit k, are_from (suc k) n)

  -- the last m bits of a number that is written by bits
  bits_written : (j p m : ℕ) → bits_of m (value f j (p + m)) ≡ from f (j + p) m
  unfolding from
  bits_written j p zero = refl
  bits_written j p (suc m) =
      let e : p + suc m ≡ suc p + m = omega arith in
      ap₂ (λ (b : ℕ) (l : List ℕ). b ∷ l)
      (value_bit f bit j (p + suc m) p m (omega arith))
      (ap (λ (i : ℕ). bits_of m (value f j i)) e ∙ bits_written j (suc p) m ∙ ap (λ (i : ℕ). from f i m) (add-suc j p))

  bits_from_law : (k n : ℕ) → bits (from (λ (i : ℕ). value f (8 * i) 8) k n) ≡ from f (8 * k) (8 * n)
  unfolding from
  bits_from_law k zero = refl
  bits_from_law k (suc n) =
      let e : 8 * suc k ≡ 8 * k + 8 = omega arith in
      let l : 8 + 8 * n ≡ 8 * suc n = omega arith in
      ap₂ (λ (x y : List ℕ). x ++ y)
      (bits_written (8 * k) 0 8 ∙ ap (λ (i : ℕ). from f i 8) (add-zero (8 * k)))
      (bits_from_law (suc k) n ∙ ap (λ (i : ℕ). from f i (8 * n)) e)
      ∙ sym (from_append f (8 * k) 8 (8 * n))
      ∙ ap (from f (8 * k)) l

-- the bits from o on, as a polynomial without the x^24
D : (ℕ → ℕ) → ℕ → ℕ → ℕ
D f o n = divide 0 (from f o n)

module _ (f : ℕ → ℕ) (bit : (i : ℕ) → f i < 2) where
  D-lt : (o n : ℕ) → D f o n < 2 ^ 24
  unfolding D
  D-lt o n = divide_lt (from f o n) 0 (are_from f bit o n) (pow_pos 24)

  small : (i : ℕ) → f i < 2 ^ 24
  small i = lt_trans (bit i) (lit< tt)

  -- a bit that is brought down to nothing
  alone : (i : ℕ) → bring 0 (f i) ≡ f i
  alone i =
      let e : 0 * 2 + f i ≡ f i = zero-add (f i) in
      bring_small 0 (f i) (rw e (small i)) ∙ e

  remainder_packed : (n o : ℕ) → remainder (packed n (λ (j : ℕ). f (o + j))) ≡ shift 24 (D f o (8 * n))
  unfolding remainder packed tabulate D
  remainder_packed n o =
      divide_append (bits (from (λ (k : ℕ). value (λ (j : ℕ). f (o + j)) (8 * k) 8) 0 n)) (replicate 24 0) 0
      ∙ ap (λ (l : List ℕ). shift 24 (divide 0 l))
      (bits_from_law (λ (j : ℕ). f (o + j)) (λ i. bit (o + i)) 0 n ∙ from_later f o 0 (8 * n) ∙ ap (λ (i : ℕ). from f i (8 * n)) (add-zero o))

  -- one bit more at the end, and one less at the start
  more : (o n : ℕ) → divide 0 (from f o (suc n)) ≡ bit_xor (bring (D f o n) 0) (f (o + n))
  unfolding D from
  more o n =
      let e : suc n ≡ n + 1 = omega arith in
      ap (λ (i : ℕ). divide 0 (from f o i)) e
      ∙ ap (divide 0) (from_append f o n 1)
      ∙ divide_append (from f o n) (from f (o + n) 1) 0
      ∙ ap (λ (x : ℕ). bring x (f (o + n))) (sym (xor_zero_r (D f o n)))
      ∙ bring_linear (D f o n) 0 0 (f (o + n)) (D-lt o n) (pow_pos 24) (lit< tt) (bit (o + n))
      ∙ ap (bit_xor (bring (D f o n) 0)) (alone (o + n))

  fewer : (o n : ℕ) → divide 0 (from f o (suc n)) ≡ bit_xor (shift n (f o)) (D f (suc o) n)
  unfolding D from
  fewer o n =
      ap (λ (x : ℕ). divide x (from f (suc o) n)) (alone o ∙ sym (xor_zero_r (f o)))
      ∙ ap (divide (bit_xor (f o) 0)) (sym (xors_nothing f (suc o) n))
      ∙ divide_linear (replicate n 0) (from f (suc o) n) (f o) 0 (length_zeros n ∙ sym (length_from f (suc o) n))
      (are_zeros n) (are_from f bit (suc o) n) (small o) (pow_pos 24)

  next : (o n : ℕ) → D f (suc o) n ≡ bit_xor (bit_xor (shift 1 (D f o n)) (f (o + n))) (shift n (f o))
  next o n =
      sym (xor_back (D f (suc o) n) (shift n (f o)))
      ∙ ap (λ (x : ℕ). bit_xor x (shift n (f o))) (xor_comm (D f (suc o) n) (shift n (f o)) ∙ sym (fewer o n) ∙ more o n)

  pub rolled : (n o : ℕ)
      → remainder (packed n (λ (j : ℕ). f (suc o + j)))
      ≡ bit_xor (bit_xor (shift 1 (remainder (packed n (λ (j : ℕ). f (o + j))))) (shift 24 (f (o + 8 * n)))) (shift (8 * n + 24) (f o))
  rolled n o =
      let d = D f o (8 * n) in
      let b = f (o + 8 * n) in
      let a = shift (8 * n) (f o) in
      let s : shift 1 d < 2 ^ 24 = shift_lt 1 d (D-lt o (8 * n)) in
      remainder_packed n (suc o)
      ∙ ap (shift 24) (next o (8 * n))
      ∙ shift_linear 24 (bit_xor (shift 1 d) b) a (xor_lt 24 (shift 1 d) b s (small (o + 8 * n))) (shift_lt (8 * n) (f o) (small o))
      ∙ ap₂ bit_xor
      (shift_linear 24 (shift 1 d) b s (small (o + 8 * n))
      ∙ ap (λ (x : ℕ). bit_xor x (shift 24 b))
      (shift_shift 24 1 d ∙ sym (shift_shift 1 24 d) ∙ ap (shift 1) (sym (remainder_packed n o))))
      (shift_shift 24 (8 * n) (f o))
