-- What `compute_crc` answers.
-- Assumes nothing.
use Rattle.std.specs.Prelude.{List, ℕ}
use Rattle.lists.specs.Told.{Told, tell}
use Rattle.annex10.specs.Remainder.{remainder}
use Rattle.streams.specs.Streams.{message_at, stream_number}

-- the remainder of the message of n bytes at a bit offset
unfoldable pub crc_at : ℕ → List ℕ → ℕ → Told ℕ
crc_at n bytes offset = tell (stream_number n bytes offset) (remainder (message_at bytes n offset))
