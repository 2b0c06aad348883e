-- The header check of a first byte with so many repaired positions, flat.
-- Assumes nothing.
use Rattle.std.specs.Prelude.{Bool, ℕ}
use Rattle.std.proofs.Math.Option.{none, some}
use Rattle.lists.specs.Bits.{as_bit}
use Rattle.lists.specs.Told.{Told, and_then}
use Rattle.mode_s.specs.Header.{header_of}
use Rattle.mode_s.specs.Counted.{counted_repairs}
use Rattle.search.specs.Kinds.{Kind}
use Rattle.khlongrae.specs.declared.header.FlatHeader.{FlatHeader}

-- number 0 with 1 for a header that is taken and 0 for one that is not, or a refusal's number with 0
abbrev pub flat_header : Told Bool → FlatHeader
flat_header (n, some valid) = record { number = n; valid = as_bit valid }
flat_header (n, none) = record { number = n; valid = 0 }

-- THE HEADER CHECK with `count` positions, of a message of either kind
unfoldable pub header_check : Kind → ℕ → ℕ → ℕ → ℕ → Told Bool
header_check kind first count j k = and_then (counted_repairs count j k) (header_of kind.bytes kind.header first)
