-- A bit turned over. Position 0 is the top bit of the first byte.
-- Assumes nothing.
use Rattle.std.specs.Prelude.{List, ℕ, ◌-◌, ◌/◌, ◌%◌, ◌^◌, get_or, set}
use Rattle.std.specs.Int.Bits.{bit_xor}

-- the string with the bit at position j turned over
unfoldable pub flip : List ℕ → ℕ → List ℕ
flip m j = set m (j / 8) (bit_xor (get_or m (j / 8) 0) (2 ^ (7 - j % 8)))
