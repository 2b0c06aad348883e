-- What the tests of `ten_log10` and `estimate_cn0` say of a float.
-- Assumes nothing.
use mathlib.Core.Path.{◌≡◌, refl, sym, ◌∙◌, subst}
use mathlib.Core.Bool.{Bool, true, false, not, ◌||◌, beq, true≢false, false≢true}
use Prim.Native.Nat.{ℕ, zero, suc, ◌*◌, ◌<◌}
use native.Mathlib.Nat.{lt_irrefl, zero-lt-suc, zero-mul, mul-one, mul-pos}
use lib.Dec.{T, eqb, lt→ltb, eqb→eq}
use lib.IntN.{ℤ}
use lib.Ieee.{Float, nan, inf, fin, binary32, of_bits, up, down, lt, eq, mul, of_int}
use lib.Ieee.Fits.{up_pos, and_i, and_l, eq→eqb}
use lib.Ieee.Positive.{positive}
use borrow.Author.Tests.{ltb-true, lt-ltb, not-true, not-false}
use lib.Ieee.{sub, div, le, is_nan}
use Rattle.floats.specs.Numbers.{zero_f, two}
use Rattle.floats.proofs.Compare.{or_r, le_not_lt}
use Rattle.cn0.specs.Estimate.{two_million, signal_of, cn0_of}
use Rattle.cn0.specs.Logarithm.{log_steps, scale, ten_log10}

no_part : (e : ℤ) → 0 * up e * 1 ≡ 0
no_part e = mul-one (0 * up e) ∙ zero-mul (up e)

some : (m : ℕ) (e : ℤ) → 0 < suc m * up e * 1
some m e = mul-pos (mul-pos (zero-lt-suc m) (up_pos e)) (zero-lt-suc 0)

-- 0 is below each of these, and equals none
below_some : (m : ℕ) (e : ℤ) → 0 * down e < suc m * up e * 1
below_some m e = subst (λ (k : ℕ). k < suc m * up e * 1) (sym (zero-mul (down e))) (some m e)

is_zero : (s : Bool) (e : ℤ) → T (eq (fin s 0 e) zero_f)
unfolding eq of_bits
is_zero s e =
    and_i (eqb (0 * up e * 1) (0 * down e)) (beq s false || eqb (0 * up e * 1) 0) (eq→eqb (no_part e ∙ sym (zero-mul (down e)))) (or_r (beq s false) (eqb (0 * up e * 1) 0) (eq→eqb (no_part e)))

no_zero : (s : Bool) (m : ℕ) (e : ℤ) → T (eq (fin s (suc m) e) zero_f) → ⊥
unfolding eq of_bits
no_zero s m e t =
    lt_irrefl 0
    (subst (λ (k : ℕ). 0 < k) (eqb→eq (suc m * up e * 1) (0 * down e) (and_l (eqb (suc m * up e * 1) (0 * down e)) (beq s false || eqb (suc m * up e * 1) 0) t) ∙ zero-mul (down e)) (some m e))

yes : (b : Bool) → b ≡ true → T b
yes b e = subst T (sym e) tt

-- ---- the four ways
pub at_log : (x : Float) → lt zero_f x ≡ true → eq x (inf false) ≡ false → T (positive x)
unfolding lt eq of_bits
at_log nan h k = absurd (false≢true h)
at_log (inf true) h k = absurd (false≢true h)
at_log (inf false) h k = absurd (true≢false k)
at_log (fin true m e) h k = absurd (false≢true h)
at_log (fin false zero e) h k = absurd (lt_irrefl 0 (subst (λ (j : ℕ). j < 0) (zero-mul (down e)) (subst (λ (j : ℕ). 0 * down e < j) (no_part e) (ltb-true (0 * down e) (0 * up e * 1) h))))
at_log (fin false (suc m) e) h k = lt→ltb 0 (suc m) (zero-lt-suc m)

pub log_is : (x : Float) → T (positive x) → ten_log10 x ≡ mul binary32 (of_int binary32 (log_steps x)) scale
unfolding ten_log10
log_is nan p = absurd p
log_is (inf s) p = absurd p
log_is (fin true m e) p = absurd p
log_is (fin false zero e) p = absurd p
log_is (fin false (suc m) e) p = refl

pub at_inf : (x : Float) → eq x (inf false) ≡ true → x ≡ ten_log10 x
unfolding eq ten_log10
at_inf nan h = absurd (false≢true h)
at_inf (inf true) h = absurd (false≢true h)
at_inf (inf false) h = refl
at_inf (fin s m e) h = absurd (false≢true h)

pub at_zero : (x : Float) → eq x zero_f ≡ true → inf true ≡ ten_log10 x
unfolding ten_log10 of_bits
at_zero nan h = unfold eq in absurd (false≢true h)
at_zero (inf s) h = unfold eq in absurd (false≢true h)
at_zero (fin s zero e) h = refl
at_zero (fin s (suc m) e) h = absurd (no_zero s m e (yes (eq (fin s (suc m) e) zero_f) h))

pub at_rest : (x : Float) → lt zero_f x ≡ false → eq x zero_f ≡ false → nan ≡ ten_log10 x
unfolding ten_log10 of_bits
at_rest nan h k = refl
at_rest (inf true) h k = refl
at_rest (inf false) h k = unfold lt in absurd (true≢false h)
at_rest (fin s zero e) h k = absurd (subst T k (is_zero s e))
at_rest (fin true (suc m) e) h k = refl
at_rest (fin false (suc m) e) h k = unfold lt in absurd (true≢false (sym (lt-ltb (0 * down e) (suc m * up e * 1) (below_some m e)) ∙ h))

-- ---- the signal

number : T (not (is_nan zero_f))
unfolding is_nan of_bits
number = tt

below_not : (d : Float) → T (not (is_nan d)) → le zero_f d ≡ true → lt d zero_f ≡ false
below_not d n h = not-true (lt d zero_f) (sym (le_not_lt zero_f d number n) ∙ h)

below_so : (d : Float) → T (not (is_nan d)) → le zero_f d ≡ false → lt d zero_f ≡ true
below_so d n h = not-false (lt d zero_f) (sym (le_not_lt zero_f d number n) ∙ h)

-- what is not below 0, by the test of the code
pub kept_is : (d : Float) → le zero_f d ≡ true → signal_of d ≡ d
unfolding signal_of is_nan of_bits
kept_is nan h = unfold le in absurd (false≢true h)
kept_is (inf s) h = rw (below_not (inf s) tt h)
kept_is (fin s m e) h = rw (below_not (fin s m e) tt h)

pub lost_is : (d : Float) → le zero_f d ≡ false → signal_of d ≡ zero_f
unfolding signal_of is_nan of_bits
lost_is nan h = refl
lost_is (inf s) h = rw (below_so (inf s) tt h)
lost_is (fin s m e) h = rw (below_so (fin s m e) tt h)

pub estimate_is : (prompt power : Float) {signal : Float} → signal ≡ signal_of (sub binary32 prompt (mul binary32 two power))
    → ten_log10 (mul binary32 (div binary32 signal (mul binary32 two power)) two_million) ≡ cn0_of prompt power
unfolding cn0_of
estimate_is prompt power e = rw e
