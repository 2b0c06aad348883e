-- Which calls are taken, and what is known of one that is.
--     threshold_finite, threshold_else     a threshold, by its tests
--     bins_known                           a number of bins
--     search_taken, floor_taken, carrier_taken     what a number 0 says
-- Assumes nothing.
use mathlib.Core.Path.{◌≡◌, refl, sym, ◌∙◌}
use mathlib.Core.Bool.{Bool, true, false, cond, ◌&&◌, true≢false}
use Prim.Native.Nat.{ℕ, ◌+◌, ◌-◌, ◌/◌, ◌%◌, ◌<◌, ◌≤◌}
use native.Mathlib.Omega.{arith}
use borrow.Author.Tests.{ltb-true, leb-true}
use lib.Dec.{eqb, leb, ltb}
use lib.Ieee.{Float, nan, inf, fin, of_bits, le, is_nan}
use Rattle.std.specs.Float.{float_is_finite}
use Rattle.floats.specs.Numbers.{zero_f}
use Rattle.floats.proofs.Compare.{le_not_lt}
use Rattle.carrier.specs.Refusals.{bins_taken, threshold_taken, search_number, floor_number, carrier_number}

-- ---- a threshold

pub threshold_finite : (t : Float) → float_is_finite t ≡ true → le zero_f t ≡ threshold_taken t
unfolding float_is_finite threshold_taken
threshold_finite nan h = absurd (true≢false (sym h))
threshold_finite (inf s) h = absurd (true≢false (sym h))
threshold_finite (fin s m e) h = le_not_lt zero_f (fin s m e) (unfold is_nan of_bits in tt) (unfold is_nan in tt)

pub threshold_else : (t : Float) → float_is_finite t ≡ false → false ≡ threshold_taken t
unfolding float_is_finite threshold_taken
threshold_else nan h = refl
threshold_else (inf s) h = refl
threshold_else (fin s m e) h = absurd (true≢false h)

-- ---- a number of bins

pub record Bins (n : ℕ) : Type 0 where
  pub low : 4 ≤ n
  pub high : n ≤ 4096

bins_tested : (n : ℕ) (t u v : Bool) → leb 4 n ≡ t → leb n 4096 ≡ u → (t && (u && v)) ≡ true → Bins n
bins_tested n true true v a b e = record { low = leb-true 4 n a; high = leb-true n 4096 b }
bins_tested n true false v a b e = absurd (true≢false (sym e))
bins_tested n false u v a b e = absurd (true≢false (sym e))

pub bins_known : (n : ℕ) → bins_taken n ≡ true → Bins n
unfolding bins_taken
bins_known n h = bins_tested n (leb 4 n) (leb n 4096) (eqb (n % 2) 0) refl refl h

-- ---- what a number 0 says

pub record Searched (n m : ℕ) : Type 0 where
  pub wide : m + 2 ≤ n / 2
  pub high : n ≤ 4096

search_tested : (n m : ℕ) (t u : Bool) → bins_taken n ≡ t → leb m (n / 2 - 2) ≡ u → ◌≡◌ {A = ℕ} (cond t (cond u 0 9) 2) 0 → Searched n m
search_tested n m true true a b e =
    let k = bins_known n a in
    record { wide = omega (arith, leb-true m (n / 2 - 2) b); high = k.high }
search_tested n m true false a b e = absurd (omega arith)
search_tested n m false u a b e = absurd (omega arith)

pub search_taken : (n m : ℕ) {k : ℕ} → k ≡ search_number n m → k ≡ 0 → Searched n m
unfolding search_number
search_taken n m e z = search_tested n m (bins_taken n) (leb m (n / 2 - 2)) refl refl (sym e ∙ z)

pub record Notched (n bin w : ℕ) : Type 0 where
  pub inside : bin < n
  pub narrow : w < n
  pub high : n ≤ 4096

floor_tested : (n bin w : ℕ) (t u v : Bool) → bins_taken n ≡ t → ltb bin n ≡ u → ltb w n ≡ v → ◌≡◌ {A = ℕ} (cond t (cond u (cond v 0 9) 7) 2) 0
    → Notched n bin w
floor_tested n bin w true true true a b c e =
    let k = bins_known n a in
    record { inside = ltb-true bin n b; narrow = ltb-true w n c; high = k.high }
floor_tested n bin w true true false a b c e = absurd (omega arith)
floor_tested n bin w true false v a b c e = absurd (omega arith)
floor_tested n bin w false u v a b c e = absurd (omega arith)

pub floor_taken : (n bin w : ℕ) {k : ℕ} → k ≡ floor_number n bin w → k ≡ 0 → Notched n bin w
unfolding floor_number
floor_taken n bin w e z = floor_tested n bin w (bins_taken n) (ltb bin n) (ltb w n) refl refl refl (sym e ∙ z)

pub record Measurable (n m w : ℕ) : Type 0 where
  pub wide : m + 2 ≤ n / 2
  pub narrow : w < n
  pub high : n ≤ 4096

carrier_tested : (n m w : ℕ) (t p u v : Bool) → bins_taken n ≡ t → leb m (n / 2 - 2) ≡ u → ltb w n ≡ v
    → ◌≡◌ {A = ℕ} (cond t (cond p (cond u (cond v 0 9) 9) 5) 2) 0 → Measurable n m w
carrier_tested n m w true true true true a b c e =
    let k = bins_known n a in
    record { wide = omega (arith, leb-true m (n / 2 - 2) b); narrow = ltb-true w n c; high = k.high }
carrier_tested n m w true true true false a b c e = absurd (omega arith)
carrier_tested n m w true true false v a b c e = absurd (omega arith)
carrier_tested n m w true false u v a b c e = absurd (omega arith)
carrier_tested n m w false p u v a b c e = absurd (omega arith)

pub carrier_taken : (n m w : ℕ) (threshold : Float) {k : ℕ} → k ≡ carrier_number n m w threshold → k ≡ 0 → Measurable n m w
unfolding carrier_number
carrier_taken n m w threshold e z =
    carrier_tested n m w (bins_taken n) (threshold_taken threshold) (leb m (n / 2 - 2)) (ltb w n) refl refl refl (sym e ∙ z)
