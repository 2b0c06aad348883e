-- What `find_stream` and `find_first_byte` answer. Lane t is the stream of clock phase t % 4 and symbol offset t / 4: the bits that start with samples t, t + 8, ..
-- Assumes nothing.
use Rattle.std.specs.Prelude.{ℕ, ◌+◌, ◌*◌, ◌%◌, cond, List, length, ◌==◌, nat_le, slice_index}
use Rattle.lists.specs.Bits.{value, packed}
use Rattle.lists.specs.Told.{Told, done, refused}

-- bit j of lane t: of a number that is no bit the lowest
unfoldable pub lane_bit : List ℕ → ℕ → ℕ → ℕ
lane_bit bits t j = slice_index bits (t + 8 * j) % 2

-- the 18 bytes of a lane
unfoldable pub lane_bytes : List ℕ → ℕ → List ℕ
lane_bytes bits t = packed 18 (lane_bit bits t)

-- 1,152 bits, else 2; 18 bytes, else 3; lanes 0 to 7, else 7
unfoldable pub lane_into : List ℕ → ℕ → List ℕ → ℕ × List ℕ
lane_into bits t out =
    cond (length bits == 1152)
    (cond (length out == 18)
    (cond (nat_le t 7) (0, lane_bytes bits t)
    (7, out))
    (3, out))
    (2, out)

-- the first byte of the message that starts with sample p
unfoldable pub byte_from : List ℕ → ℕ → ℕ
byte_from bits p = value (lane_bit bits p) 0 8

-- 1,152 bits, else 2; the last bit of the byte is one of them, else 7
unfoldable pub first_byte : List ℕ → ℕ → Told ℕ
first_byte bits p =
    cond (length bits == 1152)
    (cond (nat_le p 1095) (done (byte_from bits p))
    (refused 7))
    (refused 2)
