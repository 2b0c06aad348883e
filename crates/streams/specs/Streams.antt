-- The bits of a stream from a bit offset on, and which streams and offsets are taken.
-- Assumes nothing.
use Rattle.std.specs.Prelude.{List, cond, ℕ, ◌+◌, ◌-◌, ◌*◌, eqb, leb, length}
use Rattle.std.proofs.Math.Option.{none, some}
use Rattle.lists.specs.Bits.{bit_at, packed}
use Rattle.lists.specs.Told.{Told}
use Rattle.parts.specs.Part.{size_at}

-- n bytes, of which bit j is bit offset + j of the stream
unfoldable pub message_at : List ℕ → ℕ → ℕ → List ℕ
message_at bytes n offset = packed n (λ (j : ℕ). bit_at bytes (offset + j))

-- the number of a call for a message of n bytes: a stream has 18 bytes, else 2; the message ends within it, else 7: an offset is 0 to 32
-- for 14 bytes, 0 to 88 for 7
unfoldable pub stream_number : ℕ → List ℕ → ℕ → ℕ
stream_number n bytes offset =
    cond (eqb (length bytes) 18)
    (cond (leb offset (144 - 8 * n)) 0
    7)
    2

-- the number of a part, from its size: as many bytes, else 2; a size that is refused has a number of its own
abbrev pub sized_number : Told ℕ → List ℕ → ℕ
sized_number (k, some size) part = cond (eqb (length part) size) 0 2
sized_number (k, none) part = k

-- the number of a call at a part of a stream: 7 for an offset that is too great, whatever the part is, since none has a part for it; as many
-- bytes as the message lies in, else 2
unfoldable pub part_number : ℕ → List ℕ → ℕ → ℕ
part_number n part offset = sized_number (size_at n offset) part
