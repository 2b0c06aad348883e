-- The fields of a line, as bytes.
-- Assumes nothing.
use Rattle.std.specs.Prelude.{cond, List, [], ◌∷◌, ◌++◌, ℕ, zero, suc, ◌+◌, ◌/◌, ◌%◌, ◌^◌, ltb, get_or, Float}
use Rattle.std.specs.Float.{binary32}
use Rattle.std.specs.Float.Ieee.{to_bits}
use Rattle.annex10.specs.Address.{address_kind}
use Rattle.annex10.specs.declared.AddressKind.{AddressKind}
use Rattle.annex10.specs.declared.AddressKind.TheVariants.{Icao, Other, Flagged, NoAddress}
use Rattle.annex10.specs.declared.Repairs.{Repairs}
use Rattle.annex10.specs.declared.Repairs.TheVariants.{None, One, Two}
use Rattle.place.specs.declared.Slicer.{Slicer}
use Rattle.place.specs.declared.Slicer.TheVariants.{Coherent, Noncoherent}
use Rattle.mode_s.specs.Avr.{hex_text}

-- a number in at most so many decimal digits, no zeros in front: the digits before the last, then the last; 48 is `0`
unfoldable pub decimal_in : ℕ → ℕ → List ℕ
decimal_in zero n = []
decimal_in (suc places) n = cond (ltb n 10) ((48 + n) ∷ []) (decimal_in places (n / 10) ++ ((48 + n % 10) ∷ []))

-- a number below 2^64 has at most 20 digits
unfoldable pub decimal : ℕ → List ℕ
decimal n = decimal_in 20 n

-- 32 bits as eight hex digits, the highest first
unfoldable pub hex_word : ℕ → List ℕ
hex_word n = hex_text (n / 2 ^ 24 ∷ n / 2 ^ 16 % 256 ∷ n / 2 ^ 8 % 256 ∷ n % 256 ∷ [])

-- a float by its bits; the bits of a NaN are 7FC00000
unfoldable pub float_text : Float → List ℕ
float_text x = hex_word (to_bits binary32 x)

-- bytes 1 to 3 of a message
unfoldable pub address_digits : List ℕ → List ℕ
address_digits message = hex_text (get_or message 1 0 ∷ get_or message 2 0 ∷ get_or message 3 0 ∷ [])

-- `I`, `X` or `?` before the digits of an address; `-` in place of the whole field where there is none
unfoldable pub marked : AddressKind → List ℕ → List ℕ
marked Icao digits = 0x49 ∷ digits
marked Other digits = 0x58 ∷ digits
marked Flagged digits = 0x3F ∷ digits
marked NoAddress digits = 0x2D ∷ []

-- the address of a message, of the kind that its first byte tells
unfoldable pub address_text : List ℕ → List ℕ
address_text message = marked (address_kind (get_or message 0 0)) (address_digits message)

-- `0`, `1:j` or `2:j,k`
unfoldable pub repairs_text : Repairs → List ℕ
repairs_text None = 0x30 ∷ []
repairs_text (One j) = 0x31 ∷ 0x3A ∷ decimal j
repairs_text (Two j k) = 0x32 ∷ 0x3A ∷ (decimal j ++ (0x2C ∷ decimal k))

-- `C` or `N`
unfoldable pub slicer_text : Slicer → List ℕ
slicer_text Coherent = 0x43 ∷ []
slicer_text Noncoherent = 0x4E ∷ []
