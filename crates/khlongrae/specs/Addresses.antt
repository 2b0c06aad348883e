-- The kind of an address as a number: what claims none is 0.
-- Assumes nothing.
use Rattle.std.specs.Prelude.{ℕ}
use Rattle.annex10.specs.declared.AddressKind.{AddressKind}
use Rattle.annex10.specs.declared.AddressKind.TheVariants.{Icao, Other, Flagged, NoAddress}

abbrev pub kind_code : AddressKind → ℕ
kind_code Icao = 1
kind_code Other = 2
kind_code Flagged = 3
kind_code NoAddress = 0
