-- What NaN and infinity do to the answers.
--     nan_floor          a NaN floor is weak
--     infinite_floor     so is an infinite floor where the threshold is 0.0 or -0.0: their product is NaN
--     nan_third          a NaN is a local maximum: nothing compares with it
-- Assumes nothing.
use mathlib.Core.Path.{◌≡◌, refl, sym, ◌∙◌}
use mathlib.Core.List.{List}
use mathlib.Core.Bool.{Bool, true, false}
use Prim.Native.Nat.{ℕ, zero}
use borrow.Author.Tests.{eq-eqb}
use lib.IntN.{ℤ}
use lib.ListN.{length, get_or}
use lib.Ieee.{Float, nan, inf, fin, binary32, mul, lt, eq, le}
use Rattle.lists.specs.Told.{done}
use Rattle.floats.specs.Numbers.{zero_f}
use Rattle.floats.proofs.Nan.{nan_lt, nan_le}
use Rattle.carrier.specs.Refusals.{carrier_number}
use Rattle.carrier.specs.Peaks.{peak_of}
use Rattle.carrier.specs.Floors.{floor_of}
use Rattle.carrier.specs.Carriers.{carrier_of}
use Rattle.carrier.specs.Maxima.{maximum_of, earlier_as_great, later_greater}
use Rattle.carrier.proofs.Answers.{measured_weak, carrier_done}

nan_product : (t : Float) → mul binary32 t nan ≡ nan
unfolding mul
nan_product nan = refl
nan_product (inf s) = refl
nan_product (fin s m e) = refl

nan_below : (v : Float) {p : Float} → p ≡ nan → le p v ≡ false
unfolding le lt eq
nan_below v e = rw e

zero_product : (sign i : Bool) (e : ℤ) → mul binary32 (fin sign zero e) (inf i) ≡ nan
unfolding mul
zero_product sign i e = refl

module _ (s : List Float) (m w : ℕ) (threshold : Float) (taken : carrier_number (length s) m w threshold ≡ 0) where
  weak : {floor : Float} → floor ≡ floor_of s (peak_of s m).bin w → mul binary32 threshold floor ≡ nan
      → carrier_of s m w threshold ≡ done (false, 0, zero_f, (peak_of s m).value, floor)
  weak f e = sym (carrier_done s m w threshold refl taken) ∙ sym (measured_weak s m w threshold refl f (nan_below (peak_of s m).value e))

  pub nan_floor : floor_of s (peak_of s m).bin w ≡ nan → carrier_of s m w threshold ≡ done (false, 0, zero_f, (peak_of s m).value, nan)
  nan_floor f = weak (sym f) (nan_product threshold)

  pub infinite_floor : (sign i : Bool) (e : ℤ) → threshold ≡ fin sign zero e → floor_of s (peak_of s m).bin w ≡ inf i
      → carrier_of s m w threshold ≡ done (false, 0, zero_f, (peak_of s m).value, inf i)
  infinite_floor sign i e t f = weak (sym f) (rw t (zero_product sign i e))

pub nan_third : (v : List Float) → length v ≡ 5 → get_or v 2 nan ≡ nan → maximum_of v ≡ done true
unfolding maximum_of earlier_as_great later_greater
nan_third v l e = simp (eq-eqb _ _ l, e, nan_le, nan_lt)
