-- Whose address it is: what the three bytes behind the first one are, by that byte as it is after its repairs.
-- Assumes nothing.
use Rattle.std.specs.Prelude.{cond, [], ◌∷◌, ℕ, ◌/◌, ◌%◌, eqb}
use Rattle.annex10.specs.Header.{one_of, capabilities}
use Rattle.annex10.specs.declared.AddressKind.{AddressKind}
use Rattle.annex10.specs.declared.AddressKind.TheVariants.{Icao, Other, Flagged, NoAddress}

-- formats 11 and 17, by their capability: with each that is listed they are an ICAO address
unfoldable pub by_capability : ℕ → AddressKind
by_capability code = cond (one_of capabilities code) Icao NoAddress

-- format 18, by its control field: with 0 an ICAO address, with 5 one of another kind; with 2, 3 and 6 a flag inside the message tells
-- which of the two; with 4, a management message, and with what is not listed none
unfoldable pub by_control : ℕ → AddressKind
by_control code = cond (eqb code 0) Icao (cond (eqb code 5) Other (cond (one_of (2 ∷ 3 ∷ 6 ∷ []) code) Flagged NoAddress))

-- WHOSE ADDRESS IT IS: a first byte of any other format claims none
unfoldable pub address_kind : ℕ → AddressKind
address_kind b =
    cond (eqb (b / 8) 11) (by_capability (b % 8))
    (cond (eqb (b / 8) 17) (by_capability (b % 8)) (cond (eqb (b / 8) 18) (by_control (b % 8)) NoAddress))
