-- The answers of the carrier calls, flat: number 0 with the values, or a refusal's number with zeros.
-- Assumes nothing.
use Rattle.std.specs.Prelude.{Bool, Float}
use Rattle.std.proofs.Math.Option.{none, some}
use Rattle.lists.specs.Bits.{as_bit}
use Rattle.lists.specs.Told.{Told}
use Rattle.floats.specs.Numbers.{zero_f}
use Rattle.carrier.specs.declared.search.Best.{Best}
use Rattle.carrier.specs.Carriers.{CarrierValues}
use Rattle.khlongrae.specs.declared.spectrum.FlatSearch.{FlatSearch}
use Rattle.khlongrae.specs.declared.spectrum.FlatFloor.{FlatFloor}
use Rattle.khlongrae.specs.declared.spectrum.FlatCarrier.{FlatCarrier}
use Rattle.khlongrae.specs.declared.spectrum.FlatMaximum.{FlatMaximum}

-- the strongest bin
abbrev pub flat_search : Told Best → FlatSearch
flat_search (n, some best) = record { number = n; bin = best.bin; value = best.value }
flat_search (n, none) = record { number = n; bin = 0; value = zero_f }

-- the power beside a bin
abbrev pub flat_floor : Told Float → FlatFloor
flat_floor (n, some floor) = record { number = n; floor = floor }
flat_floor (n, none) = record { number = n; floor = zero_f }

-- the carrier: 1 for a peak
abbrev pub flat_carrier : Told CarrierValues → FlatCarrier
flat_carrier (n, some (peak, bin, fraction, value, floor)) =
    record { number = n; peak = as_bit peak; bin = bin; fraction = fraction; value = value; floor = floor }
flat_carrier (n, none) = record { number = n; peak = 0; bin = 0; fraction = zero_f; value = zero_f; floor = zero_f }

-- the local maximum: 1 for yes
abbrev pub flat_maximum : Told Bool → FlatMaximum
flat_maximum (n, some t) = record { number = n; yes = as_bit t }
flat_maximum (n, none) = record { number = n; yes = 0 }
