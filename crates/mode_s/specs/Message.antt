-- A message of either kind.
-- Assumes nothing.
use Rattle.std.specs.Prelude.{List, ◌++◌, ℕ, replicate}
use Rattle.annex10.specs.declared.MessageKind.{MessageKind}
use Rattle.annex10.specs.declared.MessageKind.TheVariants.{Short, Long}
use Rattle.mode_s.specs.declared.message.ModeSMessage.{ModeSMessage}

-- 7 bytes, with zeros behind them
abbrev pub short_message : List ℕ → ModeSMessage
short_message b = record { kind = Short; length = 7; bytes = b ++ replicate 7 0 }

-- 14 bytes
abbrev pub long_message : List ℕ → ModeSMessage
long_message b = record { kind = Long; length = 14; bytes = b }

-- the bits of a kind
abbrev pub num_bits : MessageKind → ℕ
num_bits Short = 56
num_bits Long = 112
