-- What `compute_hamming_distance` answers.
-- Assumes nothing.
use Rattle.std.specs.Prelude.{List, cond, ℕ, zero, suc, ◌+◌, eqb, length}
use Rattle.lists.specs.Bits.{bit_at}
use Rattle.lists.specs.Told.{Told, tell}
use Rattle.streams.specs.Streams.{message_at, stream_number}

-- in how many of the first n positions two strings of bits differ
unfoldable pub differing : List ℕ → List ℕ → ℕ → ℕ
differing x y zero = 0
differing x y (suc n) = differing x y n + cond (eqb (bit_at x n) (bit_at y n)) 0 1

-- the number of a call with two streams
unfoldable pub pair_number : List ℕ → List ℕ → ℕ → ℕ
pair_number a b offset = cond (eqb (length a) 18) (stream_number 14 b offset) 2

-- in how many of the 112 positions the messages of two streams at a bit offset differ
unfoldable pub distance_at : List ℕ → List ℕ → ℕ → Told ℕ
distance_at a b offset = tell (pair_number a b offset) (differing (message_at a 14 offset) (message_at b 14 offset) 112)
