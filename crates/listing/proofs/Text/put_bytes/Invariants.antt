-- `listing::Text::put_bytes` meets its contract. The loop: the digits of the first bytes are put. Assumes nothing.
use mathlib.Core.Path.{◌≡◌}
use lib.ListN.{take}
use Rattle.mode_s.specs.Avr.{hex_text}
use Rattle.listing.specs.Inner.{puts}
use Rattle.listing.proofs.Text.put_bytes.Given as goal

abbrev pub invariant-loop-b : goal.invariant-loop-b
invariant-loop-b l = l.self ≡ puts l.initial.self (hex_text (take l.b-index l.bytes))
