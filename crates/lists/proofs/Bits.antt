-- Laws of bits and bytes.
--     bit_at_packed               the bits of packed bytes
--     byte_whole, byte_across    eight bits that start at a byte, and inside one
--     howMany-                   how many bits are 1: the same of the same bits; at most all; of none each is 0
-- Assumes nothing.
use mathlib.Core.Path.{◌≡◌, refl, sym, ap, ◌∙◌, subst}
use mathlib.Core.List.{List}
use Prim.Native.Nat.{ℕ, zero, suc, ◌+◌, ◌-◌, ◌*◌, ◌/◌, ◌%◌, ◌^◌, ◌<◌, ◌≤◌}
use native.Mathlib.Nat.{pow-succ', pow-suc, div-div-eq-div-mul, mod-eq_of_lt, add-zero, add-suc, mul_assoc, mul-mod_left, div-one}
use native.Mathlib.Decide.{ℕ_discrete}
use native.Mathlib.Omega.{arith}
use lib.ListN.{get_or}
use lib.Bits.{bit_or, or_shifted}
use lib.Pow.{pow_pos, pow-add, shr_lt, shl-shr}
use lib.Arith.{mod-mul}
use lib.Dec.{lit<}
use Rattle.lists.specs.Bits.{bit_at, value, packed, how_many}
use Rattle.lists.proofs.Table.{get_d_tabulate}

pub bit_at_lt : (bs : List ℕ) (j : ℕ) {b : ℕ} → b ≡ bit_at bs j → b < 2
unfolding bit_at
bit_at_lt bs j e = rw e (omega arith)

module _ (f : ℕ → ℕ) (bit : (i : ℕ) → f i < 2) where
  pub value_lt : (j n : ℕ) → value f j n < 2 ^ n
  unfolding value
  value_lt j zero = omega arith
  value_lt j (suc n) = rw (pow-suc 2 n) (omega (arith, value_lt j n, bit (j + n)))

  -- the bit of weight 2 ^ e of n bits is the one that e bits follow
  pub value_bit : (j n m e : ℕ) → n ≡ m + e + 1 → value f j n / 2 ^ e % 2 ≡ f (j + m)
  unfolding value
  value_bit j zero m e q = absurd (omega arith)
  value_bit j (suc n) m zero q =
      let d : n ≡ m = omega arith in
      rw (← d) (omega (arith, bit (j + n)))
  value_bit j (suc n) m (suc e) q =
      let h : (value f j n * 2 + f (j + n)) / 2 ≡ value f j n = omega (arith, bit (j + n)) in
      rw (pow-succ' 2 e, ← div-div-eq-div-mul, h) (value_bit j n m e (omega arith))

  pub bit_at_packed : (n j : ℕ) → j < 8 * n → bit_at (packed n f) j ≡ f j
  unfolding bit_at packed
  bit_at_packed n j h =
      let q : 8 * (j / 8) + j % 8 ≡ j = omega arith in
      rw (get_d_tabulate n (λ (k : ℕ). value f (8 * k) 8) (j / 8) 0 (omega arith))
      (value_bit (8 * (j / 8)) 8 (j % 8) (7 - j % 8) (omega arith) ∙ ap f q)

-- ---- bits of one byte, and of a run that crosses from a byte to the next

pub value_split : (f : ℕ → ℕ) (j m n : ℕ) → value f j (m + n) ≡ value f j m * 2 ^ n + value f (j + m) n
unfolding value
value_split f j m zero = rw add-zero (omega arith)
value_split f j m (suc n) =
    let a : j + (m + n) ≡ j + m + n = omega arith in
    let p : value f j m * (2 ^ n * 2) ≡ value f j m * 2 ^ n * 2 = sym (mul_assoc (value f j m) (2 ^ n) 2) in
    rw (add-suc, pow-suc 2 n, a, value_split f j m n) (omega arith)

-- m bits of byte n from its bit i on, which e bits follow
pub byte_bits : (bs : List ℕ) (n i m e : ℕ) → i + m + e ≡ 8 → value (bit_at bs) (8 * n + i) m ≡ get_or bs n 0 / 2 ^ e % 2 ^ m
unfolding value bit_at
byte_bits bs n i zero e q = omega arith
byte_bits bs n i (suc m) e q =
    let a : (8 * n + i + m) / 8 ≡ n = omega arith in
    let b : 7 - (8 * n + i + m) % 8 ≡ e = omega arith in
    rw (a, b, byte_bits bs n i m (suc e) (omega arith), pow-suc 2 e, ← div-div-eq-div-mul, pow-suc 2 m)
    (sym (mod-mul (get_or bs n 0 / 2 ^ e) (pow_pos m) (lit< tt)))

-- numbers of the same bits, wherever these stand
pub value_same : (f g : ℕ → ℕ) (i j n : ℕ) → ((m : ℕ) → m < n → f (i + m) ≡ g (j + m)) → value f i n ≡ value g j n
unfolding value
value_same f g i j zero each = refl
value_same f g i j (suc n) each = rw (value_same f g i j n (λ m l. each m (omega arith)), each n (omega arith))

-- the bits that stand o later
pub value_later : (f : ℕ → ℕ) (o j n : ℕ) → value (λ (i : ℕ). f (o + i)) j n ≡ value f (o + j) n
value_later f o j n =
    value_same (λ (i : ℕ). f (o + i)) f j (o + j) n
    (λ m l.
    let a : o + (j + m) ≡ o + j + m = omega arith in
    rw a)

-- eight bits from bit o of byte n on
pub byte_whole : (bs : List ℕ) (n : ℕ) → get_or bs n 0 < 256 → get_or bs n 0 ≡ value (bit_at bs) (8 * n) 8
byte_whole bs n h =
    let a : 8 * n ≡ 8 * n + 0 = omega arith in
    rw (a, byte_bits bs n 0 8 0 refl) (omega arith)

shl_low : (x m o : ℕ) → x * 2 ^ o % (2 ^ m * 2 ^ o) ≡ x % 2 ^ m * 2 ^ o
shl_low x m o = rw (mod-mul (x * 2 ^ o) (pow_pos m) (pow_pos o), shl-shr, mul-mod_left, add-zero)

pub byte_across : (bs : List ℕ) (n o : ℕ) → o < 8 → get_or bs (n + 1) 0 < 256
    → bit_or (get_or bs n 0 * 2 ^ o % 256) (get_or bs (n + 1) 0 / 2 ^ (8 - o)) ≡ value (bit_at bs) (8 * n + o) 8
byte_across bs n o hi h =
    let x = get_or bs n 0 in
    let y = get_or bs (n + 1) 0 in
    let s : 8 - o + o ≡ 8 = omega arith in
    let u : 8 ≡ o + (8 - o) = omega arith in
    let t : 8 * n + o + (8 - o) ≡ 8 * (n + 1) + 0 = omega arith in
    let p : 2 ^ (8 - o) * 2 ^ o ≡ 256 = sym (pow-add 2 (8 - o) o) ∙ ap (λ (k : ℕ). 2 ^ k) s in
    let a : x * 2 ^ o % 256 ≡ x % 2 ^ (8 - o) * 2 ^ o = subst (λ (k : ℕ). x * 2 ^ o % k ≡ x % 2 ^ (8 - o) * 2 ^ o) p (shl_low x (8 - o) o) in
    let b : y / 2 ^ (8 - o) < 2 ^ o = shr_lt o (8 - o) (subst (λ (k : ℕ). y < 2 ^ k) u h) in
    let v : value (bit_at bs) (8 * n + o) 8 ≡ value (bit_at bs) (8 * n + o) (8 - o) * 2 ^ o + value (bit_at bs) (8 * n + o + (8 - o)) o =
    rw s at (value_split (bit_at bs) (8 * n + o) (8 - o) o) in
    rw (a, or_shifted (x % 2 ^ (8 - o)) o (y / 2 ^ (8 - o)) b, v, t, byte_bits bs n o (8 - o) 0 (omega arith), byte_bits bs (n + 1) 0 o (8 - o) (omega arith), mod-eq_of_lt b, div-one)

-- ---- how many bits are 1

pub how_many_same : (f g : ℕ → ℕ) (n : ℕ) → ((j : ℕ) → j < n → f j ≡ g j) → how_many f n ≡ how_many g n
unfolding how_many
how_many_same f g zero each = refl
how_many_same f g (suc n) each = rw (how_many_same f g n (λ j l. each j (omega arith)), each n (omega arith))

pub how_many_le : (f : ℕ → ℕ) → ((i : ℕ) → f i < 2) → (n : ℕ) → how_many f n ≤ n
unfolding how_many
how_many_le f bit zero = omega arith
how_many_le f bit (suc n) = omega (arith, how_many_le f bit n, bit n)

pub how_many_none : (f : ℕ → ℕ) (n : ℕ) → how_many f n ≡ 0 → (j : ℕ) → j < n → f j ≡ 0
unfolding how_many
how_many_none f (suc n) e j l = elim (ℕ_discrete j n) [
  | yes q ↦ rw q (omega arith)
  | no q ↦ how_many_none f n (omega arith) j (omega arith)
]
how_many_none f zero e j l = absurd (omega arith)
