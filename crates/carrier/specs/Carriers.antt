-- The carrier call: what `check_carrier_metric` answers.
-- Assumes nothing.
use Rattle.std.specs.Prelude.{List, Bool, true, false, cond, ℕ, ◌+◌, ◌-◌, length, Float}
use Rattle.std.specs.Float.{binary32}
use Rattle.std.specs.Float.Ieee.{mul, le}
use Rattle.lists.specs.Told.{Told, done, refused, tell}
use Rattle.floats.specs.Numbers.{zero_f}
use Rattle.math.specs.Parabola.{parabola}
use Rattle.carrier.specs.declared.metric.Carrier.{Carrier}
use Rattle.carrier.specs.declared.metric.Carrier.TheVariants.{Peak, Weak, Refused}
use Rattle.carrier.specs.Refusals.{carrier_number}
use Rattle.carrier.specs.Peaks.{bin_at, peak_of}
use Rattle.carrier.specs.Floors.{floor_of}

-- whether it is a peak, and bin, fraction, value and floor: a weak one has neither bin nor fraction, zeros stand there
abbrev pub CarrierValues : Type 0
CarrierValues = Bool × ℕ × Float × Float × Float

-- an answer: its number, and the values with number 0
abbrev pub carrier_told : Carrier → Told CarrierValues
carrier_told (Peak bin fraction value floor) = done (true, bin, fraction, value, floor)
carrier_told (Weak value floor) = done (false, 0, zero_f, value, floor)
carrier_told (Refused n) = refused n

-- the parabola over the bins before, at and after a bin, not held to a range
unfoldable pub bin_fraction : List Float → ℕ → Float
bin_fraction s bin = parabola (bin_at s (bin - 1)) (bin_at s bin) (bin_at s (bin + 1))

-- value ≥ threshold · floor: not where the product is NaN
unfoldable pub stands_out : Float → Float → Float → Bool
stands_out value floor threshold = le (mul binary32 threshold floor) value

-- the peak within M of the middle, and its floor outside ± W
unfoldable pub measured : List Float → ℕ → ℕ → Float → CarrierValues
measured s m w threshold =
    let bin = (peak_of s m).bin in
    let value = (peak_of s m).value in
    let floor = floor_of s bin w in
    cond (stands_out value floor threshold) (true, bin, bin_fraction s bin, value, floor) (false, 0, zero_f, value, floor)

-- what `check_carrier_metric` answers
unfoldable pub carrier_of : List Float → ℕ → ℕ → Float → Told CarrierValues
carrier_of s m w threshold = tell (carrier_number (length s) m w threshold) (measured s m w threshold)
