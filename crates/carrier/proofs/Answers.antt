-- The answers of a carrier call.
--     measured_peak, measured_weak       a peak that stands out, and a weak one
--     carrier_done                       a call that is taken
-- Assumes nothing.
use mathlib.Core.Path.{◌≡◌}
use mathlib.Core.List.{List}
use mathlib.Core.Bool.{true, false}
use Prim.Native.Nat.{ℕ}
use lib.ListN.{length}
use lib.Ieee.{Float, binary32, mul, le}
use Rattle.lists.specs.Told.{Told, done}
use Rattle.lists.proofs.Telling.{told_done}
use Rattle.floats.specs.Numbers.{zero_f}
use Rattle.carrier.specs.declared.search.Best.{Best}
use Rattle.carrier.specs.Refusals.{carrier_number}
use Rattle.carrier.specs.Peaks.{peak_of}
use Rattle.carrier.specs.Floors.{floor_of}
use Rattle.carrier.specs.Carriers.{CarrierValues, bin_fraction, stands_out, measured, carrier_of}

module _ (s : List Float) (m w : ℕ) (threshold : Float) where
  pub measured_peak : {b : Best} {fraction floor : Float} → b ≡ peak_of s m → floor ≡ floor_of s b.bin w → le (mul binary32 threshold floor) b.value ≡ true
      → fraction ≡ bin_fraction s b.bin → ◌≡◌ {A = Told CarrierValues} (done (true, b.bin, fraction, b.value, floor)) (done (measured s m w threshold))
  unfolding measured stands_out
  measured_peak e f t g = rw (← e, ← f, t, ← g)

  pub measured_weak : {b : Best} {floor : Float} → b ≡ peak_of s m → floor ≡ floor_of s b.bin w → le (mul binary32 threshold floor) b.value ≡ false
      → ◌≡◌ {A = Told CarrierValues} (done (false, 0, zero_f, b.value, floor)) (done (measured s m w threshold))
  unfolding measured stands_out
  measured_weak e f t = rw (← e, ← f, t)

  pub carrier_done : {n : ℕ} → n ≡ carrier_number (length s) m w threshold → n ≡ 0 → done (measured s m w threshold) ≡ carrier_of s m w threshold
  unfolding carrier_of
  carrier_done = told_done (measured s m w threshold)
