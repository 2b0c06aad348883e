-- What private functions compute: no public contract cites it.
-- Assumes nothing.
use Rattle.std.specs.Prelude.{List, ℕ, get_or}
use Rattle.mode_s.specs.Avr.{avr_text}

-- byte i of an AVR line
unfoldable pub avr_byte : List ℕ → ℕ → ℕ
avr_byte m i = get_or (avr_text m) i 0
