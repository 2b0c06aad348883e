-- How many bytes a message has, and how many of its positions are repaired at most.
-- Assumes nothing.
use Rattle.std.specs.Prelude.{Bool, ◌||◌, ℕ, eqb}
use Rattle.annex10.specs.declared.MessageKind.{MessageKind}
use Rattle.annex10.specs.declared.MessageKind.TheVariants.{Short, Long}

-- a message has 7 bytes or 14
unfoldable pub message_length : ℕ → Bool
message_length n = eqb n 7 || eqb n 14

-- how many a message of a kind has
abbrev pub message_bytes : MessageKind → ℕ
message_bytes Short = 7
message_bytes Long = 14

-- the most positions that are repaired in a message of a kind
abbrev pub most_repairs : MessageKind → ℕ
most_repairs Short = 1
most_repairs Long = 2
