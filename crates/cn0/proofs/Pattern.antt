-- The bits of a positive f32, as a place k and the digits q: the pattern is k * 2 ^ 23 + q, and q * 2 ^ k is the value in units of the smallest.
-- Normal and subnormal numbers are alike in this.
-- Assumes nothing.
use mathlib.Core.Path.{◌≡◌, refl, sym, ap, ◌∙◌, subst}
use mathlib.Core.Logic.{◌⊎◌, inl, inr}
use mathlib.Core.Bool.{true, false, not}
use Prim.Native.Nat.{ℕ, suc, ◌+◌, ◌-◌, ◌*◌, ◌/◌, ◌%◌, ◌^◌, ◌≤◌, ◌<◌}
use native.Mathlib.Nat.{le_trans, le_of_eq, lt_of_le_of_lt, lt_of_lt_of_le, mul_assoc, mul-one, mul_right_comm, mul-pos, mul-le-mul_right, mul-lt-mul_of_pos_right, div-one, div-lt_iff_lt-mul, pow-suc, eq-zero-or-pos}
use native.Mathlib.Omega.{arith}
use lib.Dec.{T, lit≤, ltb→lt}
use lib.Pow.{pow-add, pow_pos, shl_lt, shl-shr}
use lib.Count.{count_leading_zeros, leading_unique}
use lib.IntN.{ℤ, pos, negsuc, ◌+ℤ◌, ◌-ℤ◌}
use lib.Ieee.{Float, nan, inf, fin, binary32, up, down, size, fits, to_bits, is_nan}
use lib.Ieee.Digits.{size-lt, size-le, size_reaches}
use lib.Ieee.Fits.{down_pos, kept-lt}
use lib.Ieee.Positive.{positive}
use Rattle.floats.proofs.Integers.{sub_ge, sub_same}
use Rattle.floats.proofs.Exact.{pow_back, pow_back_le, fits_parts}
use Rattle.cn0.specs.Logarithm.{floor_log, significand}
use Rattle.cn0.specs.Inner.{Placed}

-- ---- the number of digits
pub size_pos : (m : ℕ) → 0 < m → 0 < size m
size_pos m h = pow_back 0 (size m) (lt_of_le_of_lt h (size-lt m))

pub size_top : (m : ℕ) → 0 < m → 2 ^ (size m - 1) ≤ m
size_top m h =
    let z = size_pos m h in
    size_reaches m (size m - 1) (omega arith)

pub size_shift : (m a : ℕ) → 0 < m → size (m * 2 ^ a) ≡ size m + a
size_shift m a h =
    let z = size_pos m h in
    let lo : 2 ^ (size m - 1 + a) ≤ m * 2 ^ a = le_trans (le_of_eq (pow-add 2 (size m - 1) a)) (mul-le-mul_right (2 ^ a) (size_top m h)) in
    let hi : size (m * 2 ^ a) ≤ size m + a = size-le (m * 2 ^ a) (size m + a) (shl_lt (size m) a (size-lt m)) in
    let lo' : size m - 1 + a < size (m * 2 ^ a) = pow_back (size m - 1 + a) (size (m * 2 ^ a)) (lt_of_le_of_lt lo (size-lt (m * 2 ^ a))) in
    omega arith

pub leading_size : (q : ℕ) → 0 < q → q < 2 ^ 32 → count_leading_zeros 32 q ≡ 32 - size q
leading_size q h l =
    let z = size_pos q h in
    let s : size q ≤ 32 = size-le q 32 l in
    let d : 2 ^ size q ≡ 2 ^ (size q - 1) * 2 = ap (λ (j : ℕ). 2 ^ j) (up_one (size q) z) ∙ pow-suc 2 (size q - 1) in
    let t = size_top q h in
    sym (leading_unique 32 q (32 - size q) (size q) (omega arith) (size-lt q) (omega arith))
  where
    up_one : (j : ℕ) → 0 < j → j ≡ suc (j - 1)
    up_one j h = omega arith

-- m * 2 ^ e is m * 2 ^ shift e of the smallest values
abbrev pub shift : ℤ → ℕ
shift (pos j) = j + 149
shift (negsuc j) = 149 - suc j

units_of : (m : ℕ) (e : ℤ) → down e ≤ 2 ^ 149 → m * up e * 2 ^ 149 / down e ≡ m * 2 ^ shift e
units_of m (pos j) h = div-one (m * 2 ^ j * 2 ^ 149) ∙ mul_assoc m (2 ^ j) (2 ^ 149) ∙ ap (λ (x : ℕ). m * x) (sym (pow-add 2 j 149))
units_of m (negsuc j) h =
    let l : suc j ≤ 149 = pow_back_le (suc j) 149 h in
    ap (λ (x : ℕ). x * 2 ^ 149 / 2 ^ suc j) (mul-one m)
    ∙ ap (λ (x : ℕ). m * x / 2 ^ suc j) (ap (λ (x : ℕ). 2 ^ x) (sym (fill j l)) ∙ pow-add 2 (149 - suc j) (suc j))
    ∙ ap (λ (x : ℕ). x / 2 ^ suc j) (sym (mul_assoc m (2 ^ (149 - suc j)) (2 ^ suc j)))
    ∙ shl-shr (m * 2 ^ (149 - suc j)) (suc j)
  where
    fill : (j : ℕ) → suc j ≤ 149 → 149 - suc j + suc j ≡ 149
    fill j l = omega arith

pattern : ℕ → ℕ
pattern n = 0 + (size n - 24) * 2 ^ 23 + n / 2 ^ (size n - 24)

bits_are : (m : ℕ) (e : ℤ) → to_bits binary32 (fin false m e) ≡ pattern (m * up e * 2 ^ 149 / down e)
unfolding to_bits pattern
bits_are m e = refl

log_is : (m : ℕ) (e : ℤ) → 0 < m → down e ≤ 2 ^ 149 → floor_log (fin false m e) ≡ pos (size m + shift e) -ℤ pos 150
unfolding floor_log
log_is m (pos j) h l =
    let z = size_pos m h in
    ap (λ (k : ℤ). pos j +ℤ k) (sub_ge (size m) 1 z) ∙ ap pos (omega arith) ∙ sym (sub_ge (size m + (j + 149)) 150 (omega arith))
log_is m (negsuc j) h l =
    let z = size_pos m h in
    let g : suc j ≤ 149 = pow_back_le (suc j) 149 l in
    ap (λ (k : ℤ). negsuc j +ℤ k) (sub_ge (size m) 1 z) ∙ sub_same (size m - 1) (suc j) (size m + (149 - suc j)) 150 (omega arith)

-- ---- the place and the digits
pub record Written (x : Float) (k q : ℕ) : Type 0 where
  pub bits : to_bits binary32 x ≡ k * 2 ^ 23 + q
  pub few : q < 2 ^ 24
  pub some : 0 < q
  pub lead : (k ≡ 0) ⊎ (2 ^ 23 ≤ q)
  pub log : floor_log x ≡ pos (k + size q) -ℤ pos 150
  pub sign : q * 2 ^ (32 - size q) ≡ significand x
  pub small : k + size q < 280

-- with m of z digits, at most 24, the number m * 2 ^ a drops k of its digits and keeps q
module _ (m a : ℕ) (M : 0 < m) (L : m < 2 ^ 24) where
  abbrev cut : ℕ
  cut = size (m * 2 ^ a) - 24

  cut_le : cut ≤ a
  cut_le =
      let s = size_shift m a M in
      let z : size m ≤ 24 = size-le m 24 L in
      omega arith

  kept : m * 2 ^ a / 2 ^ cut ≡ m * 2 ^ (a - cut)
  kept =
      ap (λ (j : ℕ). m * 2 ^ j / 2 ^ cut) (sym (fill a cut cut_le))
      ∙ ap (λ (x : ℕ). m * x / 2 ^ cut) (pow-add 2 (a - cut) cut)
      ∙ ap (λ (x : ℕ). x / 2 ^ cut) (sym (mul_assoc m (2 ^ (a - cut)) (2 ^ cut)))
      ∙ shl-shr (m * 2 ^ (a - cut)) cut
    where
      fill : (a k : ℕ) → k ≤ a → a - k + k ≡ a
      fill a k h = omega arith

  kept_size : size (m * 2 ^ (a - cut)) ≡ size m + (a - cut)
  kept_size = size_shift m (a - cut) M

  kept_few : m * 2 ^ (a - cut) < 2 ^ 24
  kept_few = subst (λ (x : ℕ). x < 2 ^ 24) kept (kept-lt 24 (m * 2 ^ a))

  kept_lead : (cut ≡ 0) ⊎ (2 ^ 23 ≤ m * 2 ^ (a - cut))
  kept_lead = elim (eq-zero-or-pos cut) [
    | inl z ↦ inl z
    | inr p ↦ inr (size_reaches (m * 2 ^ (a - cut)) 23 (full p))
  ]
    where
      full : 0 < cut → 23 < size (m * 2 ^ (a - cut))
      full p =
          let s = size_shift m a M in
          let t = kept_size in
          let l = cut_le in
          omega arith

  total : cut + size (m * 2 ^ (a - cut)) ≡ size m + a
  total =
      let t = kept_size in
      let l = cut_le in
      omega arith

  kept_sign : m * 2 ^ (a - cut) * 2 ^ (32 - size (m * 2 ^ (a - cut))) ≡ m * 2 ^ (32 - size m)
  kept_sign =
      mul_assoc m (2 ^ (a - cut)) (2 ^ (32 - size (m * 2 ^ (a - cut))))
      ∙ ap (λ (x : ℕ). m * x) (sym (pow-add 2 (a - cut) (32 - size (m * 2 ^ (a - cut)))) ∙ ap (λ (j : ℕ). 2 ^ j) same)
    where
      same : a - cut + (32 - size (m * 2 ^ (a - cut))) ≡ 32 - size m
      same =
          let t = kept_size in
          let l : size (m * 2 ^ (a - cut)) ≤ 24 = size-le (m * 2 ^ (a - cut)) 24 kept_few in
          omega arith

  pattern_is : pattern (m * 2 ^ a) ≡ cut * 2 ^ 23 + m * 2 ^ (a - cut)
  unfolding pattern
  pattern_is =
      let e = kept in
      omega arith

-- in all
pub place_of : ℕ → ℤ → ℕ
place_of m e = size (m * 2 ^ shift e) - 24

pub digits_of : ℕ → ℤ → ℕ
digits_of m e = m * 2 ^ (shift e - (size (m * 2 ^ shift e) - 24))

range : (m : ℕ) (e : ℤ) → 0 < m → down e ≤ 2 ^ 149 → m * up e < 2 ^ 128 * down e → size m + shift e ≤ 277
range m e M l h =
    let n : m * 2 ^ shift e < 2 ^ 277 = subst (λ (x : ℕ). x < 2 ^ 277) (units_of m e l) ((div-lt_iff_lt-mul (down_pos e)).1 (subst (λ (x : ℕ). m * up e * 2 ^ 149 < x) (mul_right_comm (2 ^ 128) (down e) (2 ^ 149)) (mul-lt-mul_of_pos_right h (pow_pos 149)))) in
    le_trans (le_of_eq (sym (size_shift m (shift e) M))) (size-le (m * 2 ^ shift e) 277 n)

written : (m : ℕ) (e : ℤ) → 0 < m → T (fits binary32 (fin false m e)) → Written (fin false m e) (place_of m e) (digits_of m e)
unfolding place_of digits_of significand
written m e M t =
    let p = fits_parts false m e M t in
    let a = shift e in
    let w = total m a M p.0 in
    let g = range m e M p.1 p.2 in
    record {
      bits = bits_are m e ∙ ap pattern (units_of m e p.1) ∙ pattern_is m a M p.0;
      few = kept_few m a M p.0;
      some = mul-pos M (pow_pos (a - (size (m * 2 ^ a) - 24)));
      lead = kept_lead m a M p.0;
      log = log_is m e M p.1 ∙ ap (λ (j : ℕ). pos j -ℤ pos 150) (sym w);
      sign = kept_sign m a M p.0;
      small = omega arith;
    }

-- of any positive f32
pub record Found (x : Float) : Type 0 where
  pub k : ℕ
  pub q : ℕ
  pub is : Written x k q

pub found : (x : Float) → T (fits binary32 x) → T (positive x) → Found x
found nan t p = absurd p
found (inf s) t p = absurd p
found (fin true m e) t p = absurd p
found (fin false m e) t p = record { k = place_of m e; q = digits_of m e; is = written m e (ltb→lt 0 m p) t }

-- ---- from the pattern back to k and q, as the code takes it apart
pub upper : (B k q : ℕ) → B ≡ k * 2 ^ 23 + q → q < 2 ^ 24 → (k ≡ 0) ⊎ (2 ^ 23 ≤ q) → 0 < B / 2 ^ 23 → (B % 2 ^ 23 + 2 ^ 23 ≡ q) × (B / 2 ^ 23 - 1 ≡ k)
upper B k q e l (inl z) h = (omega arith, omega arith)
upper B k q e l (inr g) h = (omega arith, omega arith)

pub lower : (B k q : ℕ) → B ≡ k * 2 ^ 23 + q → q < 2 ^ 24 → (k ≡ 0) ⊎ (2 ^ 23 ≤ q) → B / 2 ^ 23 ≤ 0 → (B % 2 ^ 23 ≡ q) × (0 ≡ k)
lower B k q e l (inl z) h = (omega arith, omega arith)
lower B k q e l (inr g) h = (omega arith, omega arith)

-- the digits, moved up to 32
pub moved_low : (q : ℕ) → 0 < q → q < 2 ^ 24 → 2 ^ 31 ≤ q * 2 ^ (32 - size q)
moved_low q h l =
    let z = size_pos q h in
    let s : size q ≤ 24 = size-le q 24 l in
    le_trans (le_of_eq (ap (λ (j : ℕ). 2 ^ j) (sum (size q) z s) ∙ pow-add 2 (size q - 1) (32 - size q))) (mul-le-mul_right (2 ^ (32 - size q)) (size_top q h))
  where
    sum : (z : ℕ) → 0 < z → z ≤ 24 → 31 ≡ z - 1 + (32 - z)
    sum z a b = omega arith

pub moved_high : (q : ℕ) → q < 2 ^ 24 → q * 2 ^ (32 - size q) < 2 ^ 32
moved_high q l =
    let s : size q ≤ 24 = size-le q 24 l in
    lt_of_lt_of_le (shl_lt (size q) (32 - size q) (size-lt q)) (le_of_eq (ap (λ (j : ℕ). 2 ^ j) (sum (size q) s)))
  where
    sum : (z : ℕ) → z ≤ 24 → z + (32 - z) ≡ 32
    sum z b = omega arith

pub positive_no_nan : (x : Float) → T (positive x) → T (not (is_nan x))
unfolding is_nan
positive_no_nan nan p = absurd p
positive_no_nan (inf s) p = tt
positive_no_nan (fin s m e) p = tt

-- the digits at the head of a word, as the code moves them
pub placed : (x : Float) (k q : ℕ) → Written x k q → Placed x (k + (32 - count_leading_zeros 32 q)) (q * 2 ^ count_leading_zeros 32 q % 2 ^ 64)
placed x k q w =
    let s : size q ≤ 24 = size-le q 24 w.few in
    let z : count_leading_zeros 32 q ≡ 32 - size q = leading_size q w.some (lt_of_lt_of_le w.few (lit≤ tt)) in
    let hi = moved_high q w.few in
    let lo = moved_low q w.some w.few in
    let sg = w.sign in
    let sm = w.small in
    let e : q * 2 ^ count_leading_zeros 32 q % 2 ^ 64 ≡ q * 2 ^ (32 - size q) = ap (λ (j : ℕ). q * 2 ^ j % 2 ^ 64) z ∙ whole (q * 2 ^ (32 - size q)) hi in
    let pl : k + (32 - count_leading_zeros 32 q) ≡ k + size q = omega arith in
    record {
      log = w.log ∙ ap (λ (j : ℕ). pos j -ℤ pos 150) (sym pl);
      sign = e ∙ sg;
      low = omega arith;
      high = omega arith;
      small = omega arith;
    }
  where
    whole : (a : ℕ) → a < 2 ^ 32 → a % 2 ^ 64 ≡ a
    whole a h = omega arith
