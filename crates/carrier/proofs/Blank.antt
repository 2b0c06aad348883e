-- A blank spectrum is a peak, at any threshold that is taken.
--     blank     every bin is 0.0: the answer is a peak at bin N/2 − M, with fraction, value and floor 0.0
-- Assumes nothing.
use mathlib.Core.Path.{◌≡◌, refl, sym, ◌∙◌}
use mathlib.Core.List.{List}
use mathlib.Core.Bool.{Bool, true, false, not, cond, ◌||◌, true≢false}
use Prim.Native.Nat.{ℕ, zero, suc, ◌+◌, ◌-◌, ◌*◌, ◌/◌, ◌<◌, ◌≤◌}
use native.Mathlib.Nat.{mul-zero, zero-mul, mul-pos}
use native.Mathlib.Omega.{arith}
use lib.Dec.{T, leb, ltb, lit<}
use lib.IntN.{pos}
use lib.ListN.{length}
use lib.Pow.{pow_pos}
use lib.Ieee.{Float, nan, inf, fin, binary32, unlike, up, down, below, level, of_bits, round, add, sub, mul, div, neg, lt, eq, le}
use lib.Ieee.Bits.{is_true}
use lib.Ieee.Exact.{HasValue, round_exact}
use lib.Ieee.Fits.{down_pos}
use Rattle.lists.specs.Told.{done}
use Rattle.lists.proofs.Test.{and_both}
use Rattle.floats.specs.Numbers.{zero_f}
use Rattle.math.specs.Parabola.{parabola}
use Rattle.floats.proofs.Order.{zero_of}
use lib.Ieee.Scale.{finite}
use Rattle.carrier.specs.Refusals.{bins_taken, threshold_taken, carrier_number}
use Rattle.carrier.specs.Peaks.{bin_at, stronger, peak_from, peak_of}
use Rattle.carrier.specs.Floors.{outside, floor_to, floor_of}
use Rattle.carrier.specs.Carriers.{bin_fraction, carrier_of}
use Rattle.carrier.proofs.Taken.{carrier_taken}
use Rattle.carrier.proofs.Answers.{measured_peak, carrier_done}

-- ---- a finite float times 0.0 is no greater than 0.0

level_zero : (t : Bool) (a b : ℕ) → a ≡ 0 → b ≡ 0 → T (below t a false b || level t a false b)
level_zero true a b e f = rw (e, f) tt
level_zero false a b e f = rw (e, f) tt

value_zero : (x : Float) (s : Bool) (c : ℕ) → 0 < c → HasValue x s 0 c → T (le x (fin false 0 (pos 0)))
unfolding le lt eq
value_zero nan s c p v = absurd v
value_zero (inf t) s c p v = absurd v
value_zero (fin t m e) s c p v =
    let z : m * up e ≡ 0 = zero_of (m * up e) c p (v.1 ∙ zero-mul (down e)) in
    level_zero t (m * up e * 1) (0 * down e) (omega (arith, z)) (zero-mul (down e))

zero_times : (t : Float) → finite t ≡ true → le (mul binary32 t zero_f) zero_f ≡ true
unfolding mul of_bits
zero_times nan h = absurd (true≢false (sym h))
zero_times (inf s) h = absurd (true≢false (sym h))
zero_times (fin s m e) h =
    let d = down e * 1 in
    let p : 0 < d = mul-pos (down_pos e) (lit< tt) in
    let r : HasValue (round binary32 (unlike s false) 0 d) (unlike s false) 0 d =
    round_exact binary32 (unlike s false) 0 d 0 0 p (pow_pos 24) (pow_pos 277) (sym (zero-mul d)) in
    is_true _ (rw (mul-zero (m * up e)) (value_zero (round binary32 (unlike s false) 0 d) (unlike s false) d p r))

-- ---- a blank spectrum

open_threshold : (n m w : ℕ) (threshold : Float) (t p u v : Bool) → threshold_taken threshold ≡ p
    → ◌≡◌ {A = ℕ} (cond t (cond p (cond u (cond v 0 9) 9) 5) 2) 0 → threshold_taken threshold ≡ true
open_threshold n m w threshold true true u v a e = a
open_threshold n m w threshold true false u v a e = absurd (omega arith)
open_threshold n m w threshold false p u v a e = absurd (omega arith)

finite_threshold : (n m w : ℕ) (threshold : Float) → carrier_number n m w threshold ≡ 0 → finite threshold ≡ true
unfolding carrier_number threshold_taken
finite_threshold n m w threshold e =
    (and_both (finite threshold) (not (lt threshold zero_f))
    (open_threshold n m w threshold (bins_taken n) (threshold_taken threshold) (leb m (n / 2 - 2)) (ltb w n) refl e)).0

none_greater : lt zero_f zero_f ≡ false
unfolding lt of_bits
none_greater = refl

sum_zero : add binary32 zero_f zero_f ≡ zero_f
unfolding add of_bits
sum_zero = refl

level_parabola : parabola zero_f zero_f zero_f ≡ zero_f
unfolding parabola neg of_bits add sub mul div eq
level_parabola = refl

module _ (s : List Float) (zeros : (j : ℕ) → j < length s → bin_at s j ≡ zero_f) where
  blank_peak : (first n : ℕ) → first + n ≤ length s → peak_from s first n ≡ record { bin = first; value = zero_f }
  unfolding peak_from stronger
  blank_peak first zero h = refl
  blank_peak first (suc n) h = rw (blank_peak first n (omega arith), zeros (first + n) (omega arith), none_greater)

  blank_sum : (bin w n : ℕ) → n ≤ length s → floor_to s bin w n ≡ zero_f
  unfolding floor_to
  blank_sum bin w zero h = refl
  blank_sum bin w (suc n) h = rw (blank_sum bin w n (omega arith), zeros n (omega arith), sum_zero) (either (outside bin w n))
    where
      either : (t : Bool) → cond t zero_f zero_f ≡ zero_f
      either true = refl
      either false = refl

  pub blank : (m w : ℕ) (threshold : Float) → carrier_number (length s) m w threshold ≡ 0
      → carrier_of s m w threshold ≡ done (true, length s / 2 - m, zero_f, zero_f, zero_f)
  unfolding peak_of floor_of bin_fraction
  blank m w threshold e =
      let t = carrier_taken (length s) m w threshold refl e in
      let at = length s / 2 - m in
      let f : bin_fraction s at ≡ zero_f =
      rw (zeros (at - 1) (omega (arith, t.wide)), zeros at (omega (arith, t.wide)), zeros (at + 1) (omega (arith, t.wide)), level_parabola) in
      sym (measured_peak s m w threshold {b = record { bin = at; value = zero_f }}
      (sym (blank_peak at (2 * m + 1) (omega (arith, t.wide))))
      (sym (blank_sum at w (length s) (omega arith)))
      (zero_times threshold (finite_threshold (length s) m w threshold e))
      (sym f)
      ∙ carrier_done s m w threshold refl e)
