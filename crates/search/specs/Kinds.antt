-- The two kinds of message that are searched for.
-- Assumes nothing.
use Rattle.std.specs.Prelude.{Bool, List, ℕ, get_or}
use Rattle.annex10.specs.Header.{long_header, short_header}
use Rattle.place.specs.declared.Place.{Place}
use Rattle.place.specs.All.{all_places}

-- what the search for long messages and that for short ones differ in
pub record Kind : Type 0 where
  -- the bytes of a message: 14, 7
  pub bytes : ℕ
  -- the last bit offset that is searched: 31, 87
  pub last : ℕ
  -- the most repairs: 2, 1
  pub most : ℕ
  -- the first bytes that are taken
  pub header : ℕ → Bool

-- the places, in the order of the scan: 248, 696
abbrev pub places_of : Kind → List Place
places_of kind = all_places kind.last

-- the header of a message is one of those that are taken
abbrev pub good : Kind → List ℕ → Bool
good kind message = kind.header (get_or message 0 0)

-- extended squitters: 14 bytes, bit offsets 1 to 31, at most two repairs
unfoldable pub long : Kind
long = record { bytes = 14; last = 31; most = 2; header = long_header }

-- acquisition squitters: 7 bytes, bit offsets 1 to 87, at most one repair
unfoldable pub short : Kind
short = record { bytes = 7; last = 87; most = 1; header = short_header }
