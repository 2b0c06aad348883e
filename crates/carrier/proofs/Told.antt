-- The way back from a carrier call's number and values.
-- Assumes nothing.
use mathlib.Core.Path.{◌≡◌, refl}
use mathlib.Core.Bool.{true, false}
use mathlib.Core.Option.{none, some}
use Rattle.lists.specs.Told.{Told}
use Rattle.carrier.specs.declared.metric.Carrier.{Carrier}
use Rattle.carrier.specs.declared.metric.Carrier.TheVariants.{Peak, Weak, Refused}
use Rattle.carrier.specs.Carriers.{CarrierValues, carrier_told}

abbrev pub carrier_untold : Told CarrierValues → Carrier
carrier_untold (n, some (true, bin, fraction, value, floor)) = Peak bin fraction value floor
carrier_untold (n, some (false, bin, fraction, value, floor)) = Weak value floor
carrier_untold (n, none) = Refused n

pub carrier_back : (r : Carrier) → carrier_untold (carrier_told r) ≡ r
carrier_back (Peak bin fraction value floor) = refl
carrier_back (Weak value floor) = refl
carrier_back (Refused n) = refl
