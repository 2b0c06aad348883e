-- What `floor_log` and `significand` are, in the values of the floats themselves. A finite float above 0 is num x / den x, and 2 ^ k is up k / down k,
-- for a negative k too: so each statement is one of whole numbers, with both sides multiplied up.
--     floor_log_law, floor_one    2 ^ k ≤ x < 2 ^ (k + 1) holds at k = floor_log x, and at no other k
--     significand_is          x = significand x / 2 ^ 31 * 2 ^ floor_log x
--     significand_range       2 ^ 31 ≤ significand x < 2 ^ 32
-- Assumes nothing.
use mathlib.Core.Path.{◌≡◌, refl, sym, ap, ◌∙◌, subst}
use mathlib.Core.Bool.{Bool, true, false, not}
use Prim.Native.Nat.{ℕ, zero, suc, ◌+◌, ◌-◌, ◌*◌, ◌^◌, ◌≤◌, ◌<◌}
use native.Mathlib.Nat.{le_of_eq, le_antisymm, le_of_suc-le-suc, not-suc-le-zero, lt_of_le_of_lt, lt_of_lt_of_le, lt_of_mul-lt-mul_right, lt_irrefl, mul_assoc, mul_comm, mul-one, one-mul, mul-pos, mul-le-mul_right, mul-lt-mul_of_pos_right, mul_right_comm, mul-mul-mul_comm}
use native.Mathlib.Omega.{arith}
use lib.Dec.{T, ltb, ltb→lt, nltb→le}
use lib.Pow.{pow-add, pow_pos}
use lib.IntN.{ℤ, pos, negsuc, suc_ℤ, sub_ℕ, ◌+ℤ◌, +ℤ_assoc, +ℤ_one}
use lib.Ieee.{Float, nan, inf, fin, binary32, up, down, size, fits}
use lib.Ieee.Fits.{up_pos, down_pos}
use lib.Ieee.Digits.{size-lt, size-le}
use lib.Ieee.Positive.{num, den, positive}
use Rattle.floats.proofs.Integers.{sub_ge, sub_lt}
use Rattle.floats.proofs.Exact.{pow_back, fits_parts}
use Rattle.cn0.specs.Logarithm.{floor_log, significand}
use Rattle.cn0.proofs.Pattern.{size_pos, size_top, moved_low, moved_high}

-- 2 ^ k ≤ x < 2 ^ (k + 1)
pub record Floor (x : Float) (k : ℤ) : Type 0 where
  pub low : up k * den x ≤ num x * down k
  pub high : num x * down (k +ℤ pos 1) < up (k +ℤ pos 1) * den x

-- 2 ^ (e + n) is 2 ^ n * 2 ^ e
shifted : (e : ℤ) (n : ℕ) → up (e +ℤ pos n) * down e ≡ 2 ^ n * up e * down (e +ℤ pos n)
shifted (pos j) n = ap (λ (k : ℕ). k * 1) (pow-add 2 j n ∙ mul_comm (2 ^ j) (2 ^ n))
shifted (negsuc j) n = go (ltb n (suc j)) (ltb→lt n (suc j)) (nltb→le n (suc j))
  where
    go : (t : Bool) → (T t → n < suc j) → (T (not t) → suc j ≤ n) → up (sub_ℕ n (suc j)) * 2 ^ suc j ≡ 2 ^ n * 1 * down (sub_ℕ n (suc j))
    go true h g =
        let l = h tt in
        rw (sub_lt n (suc j) l)
        (one-mul (2 ^ suc j) ∙ ap (λ (k : ℕ). 2 ^ k) (whole l) ∙ pow-add 2 n (suc (suc j - suc n)) ∙ ap (λ (k : ℕ). k * 2 ^ suc (suc j - suc n)) (sym (mul-one (2 ^ n))))
      where
        whole : n < suc j → suc j ≡ n + suc (suc j - suc n)
        whole l = omega arith
    go false h g =
        let l = g tt in
        rw (sub_ge n (suc j) l)
        (sym (pow-add 2 (n - suc j) (suc j)) ∙ ap (λ (k : ℕ). 2 ^ k) (whole l) ∙ sym (mul-one (2 ^ n)) ∙ sym (mul-one (2 ^ n * 1)))
      where
        whole : suc j ≤ n → n - suc j + suc j ≡ n
        whole l = omega arith

log_is : (m : ℕ) (e : ℤ) → 0 < m → floor_log (fin false m e) ≡ e +ℤ pos (size m - 1)
unfolding floor_log
log_is m e h = ap (λ (k : ℤ). e +ℤ k) (sub_ge (size m) 1 (size_pos m h))

log_next : (m : ℕ) (e : ℤ) → 0 < m → floor_log (fin false m e) +ℤ pos 1 ≡ e +ℤ pos (size m)
log_next m e h =
    let z = size_pos m h in
    let b : size m - 1 + 1 ≡ size m = omega arith in
    ap (λ (k : ℤ). k +ℤ pos 1) (log_is m e h) ∙ +ℤ_assoc e (pos (size m - 1)) (pos 1) ∙ ap (λ (k : ℕ). e +ℤ pos k) b

floor_fin : (m : ℕ) (e : ℤ) → 0 < m → Floor (fin false m e) (floor_log (fin false m e))
floor_fin m e h = record {
  low =
      subst (λ (k : ℤ). up k * down e ≤ m * up e * down k) (sym (log_is m e h))
      (subst (λ (n : ℕ). n ≤ m * up e * down (e +ℤ pos (size m - 1))) (sym (shifted e (size m - 1)))
      (mul-le-mul_right (down (e +ℤ pos (size m - 1))) (mul-le-mul_right (up e) (size_top m h))));
  high =
      subst (λ (k : ℤ). m * up e * down k < up k * down e) (sym (log_next m e h))
      (subst (λ (n : ℕ). m * up e * down (e +ℤ pos (size m)) < n) (sym (shifted e (size m)))
      (mul-lt-mul_of_pos_right (mul-lt-mul_of_pos_right (size-lt m) (up_pos e)) (down_pos (e +ℤ pos (size m)))));
}

pub floor_log_law : (x : Float) → T (positive x) → Floor x (floor_log x)
floor_log_law nan p = absurd p
floor_log_law (inf s) p = absurd p
floor_log_law (fin true m e) p = absurd p
floor_log_law (fin false m e) p = floor_fin m e (ltb→lt 0 m p)

-- ---- no other k
Less : ℤ → ℤ → Type 0
Less (pos a) (pos b) = a < b
Less (pos a) (negsuc b) = ⊥
Less (negsuc a) (pos b) = Unit
Less (negsuc a) (negsuc b) = b < a

-- the greater power has the greater exponent
less : (k l : ℤ) → up k * down l < up l * down k → Less k l
unfolding Less
less (pos a) (pos b) h = pow_back a b (subst (λ (n : ℕ). n < 2 ^ b) (mul-one (2 ^ a)) (subst (λ (n : ℕ). 2 ^ a * 1 < n) (mul-one (2 ^ b)) h))
less (pos a) (negsuc b) h = lt_irrefl 1 (lt_of_le_of_lt (mul-pos (pow_pos a) (pow_pos (suc b))) h)
less (negsuc a) (pos b) h = tt
less (negsuc a) (negsuc b) h = le_of_suc-le-suc (pow_back (suc b) (suc a) (subst (λ (n : ℕ). n < 2 ^ suc a) (one-mul (2 ^ suc b)) (subst (λ (n : ℕ). 1 * 2 ^ suc b < n) (one-mul (2 ^ suc a)) h)))

between : (k l : ℤ) → Less k (suc_ℤ l) → Less l (suc_ℤ k) → k ≡ l
unfolding Less
between (pos a) (pos b) h g = ap pos (le_antisymm (le_of_suc-le-suc h) (le_of_suc-le-suc g))
between (pos a) (negsuc zero) h g = absurd (not-suc-le-zero h)
between (pos a) (negsuc (suc b)) h g = absurd h
between (negsuc zero) (pos b) h g = absurd (not-suc-le-zero g)
between (negsuc (suc a)) (pos b) h g = absurd g
between (negsuc zero) (negsuc zero) h g = refl
between (negsuc zero) (negsuc (suc b)) h g = absurd (not-suc-le-zero h)
between (negsuc (suc a)) (negsuc zero) h g = absurd (not-suc-le-zero g)
between (negsuc (suc a)) (negsuc (suc b)) h g = ap (λ (n : ℕ). negsuc (suc n)) (le_antisymm (le_of_suc-le-suc g) (le_of_suc-le-suc h))

-- 2 ^ k ≤ x < 2 ^ (l + 1)
crossed : (x : Float) (k l : ℤ) → Floor x k → Floor x l → Less k (suc_ℤ l)
crossed x k l f g =
    subst (λ (i : ℤ). Less k i) (+ℤ_one l)
    (less k (l +ℤ pos 1)
    (lt_of_mul-lt-mul_right (den x)
    (lt_of_le_of_lt (le_of_eq (mul_right_comm (up k) (down (l +ℤ pos 1)) (den x)))
    (lt_of_le_of_lt (mul-le-mul_right (down (l +ℤ pos 1)) f.low)
    (lt_of_le_of_lt (le_of_eq (mul_right_comm (num x) (down k) (down (l +ℤ pos 1))))
    (lt_of_lt_of_le (mul-lt-mul_of_pos_right g.high (down_pos k)) (le_of_eq (mul_right_comm (up (l +ℤ pos 1)) (den x) (down k)))))))))

pub floor_one : (x : Float) (k l : ℤ) → Floor x k → Floor x l → k ≡ l
floor_one x k l f g = between k l (crossed x k l f g) (crossed x l k g f)

-- ---- the significand
regrouped : (m a b u d : ℕ) → m * a * (b * u * d) ≡ m * u * (a * b) * d
regrouped m a b u d =
    sym (mul_assoc (m * a) (b * u) d)
    ∙ ap (λ (n : ℕ). n * d) (ap (λ (n : ℕ). m * a * n) (mul_comm b u) ∙ mul-mul-mul_comm m a u b)

significand_fin : (m : ℕ) (e : ℤ) → 0 < m → m < 2 ^ 24
    → significand (fin false m e) * (up (floor_log (fin false m e)) * down e) ≡ m * up e * 2 ^ 31 * down (floor_log (fin false m e))
unfolding significand
significand_fin m e h l =
    let z = size_pos m h in
    let s : size m ≤ 24 = size-le m 24 l in
    let t : 32 - size m + (size m - 1) ≡ 31 = omega arith in
    subst (λ (k : ℤ). m * 2 ^ (32 - size m) * (up k * down e) ≡ m * up e * 2 ^ 31 * down k) (sym (log_is m e h))
    (ap (λ (n : ℕ). m * 2 ^ (32 - size m) * n) (shifted e (size m - 1))
    ∙ regrouped m (2 ^ (32 - size m)) (2 ^ (size m - 1)) (up e) (down (e +ℤ pos (size m - 1)))
    ∙ ap (λ (n : ℕ). m * up e * n * down (e +ℤ pos (size m - 1))) (sym (pow-add 2 (32 - size m) (size m - 1)) ∙ ap (λ (n : ℕ). 2 ^ n) t))

-- x = significand x / 2 ^ 31 * 2 ^ floor_log x
pub significand_is : (x : Float) → T (fits binary32 x) → T (positive x)
    → significand x * (up (floor_log x) * den x) ≡ num x * 2 ^ 31 * down (floor_log x)
significand_is nan f p = absurd p
significand_is (inf s) f p = absurd p
significand_is (fin true m e) f p = absurd p
significand_is (fin false m e) f p = let h = ltb→lt 0 m p in significand_fin m e h (fits_parts false m e h f).0

pub significand_range : (x : Float) → T (fits binary32 x) → T (positive x) → (2 ^ 31 ≤ significand x) × (significand x < 2 ^ 32)
unfolding significand
significand_range nan f p = absurd p
significand_range (inf s) f p = absurd p
significand_range (fin true m e) f p = absurd p
significand_range (fin false m e) f p =
    let h = ltb→lt 0 m p in
    let l = (fits_parts false m e h f).0 in
    (moved_low m h l, moved_high m l)
