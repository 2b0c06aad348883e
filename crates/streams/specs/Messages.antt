-- What `extract_message` and `message_from_part` answer, and those for short messages.
-- Assumes nothing.
use Rattle.std.specs.Prelude.{List, ℕ, ◌%◌}
use Rattle.lists.specs.Told.{Told, tell}
use Rattle.streams.specs.Streams.{message_at, stream_number, part_number}

-- the n bytes from a bit offset on
unfoldable pub extracted : ℕ → List ℕ → ℕ → Told (List ℕ)
extracted n bytes offset = tell (stream_number n bytes offset) (message_at bytes n offset)

-- the n bytes from a bit offset on, of the part of a stream that starts with the byte in which that bit lies
unfoldable pub part_message : ℕ → List ℕ → ℕ → Told (List ℕ)
part_message n part offset = tell (part_number n part offset) (message_at part n (offset % 8))
