-- `listing::Text::put_all` meets its contract. The loop: the first bytes are put. Assumes nothing.
use mathlib.Core.Path.{◌≡◌}
use lib.ListN.{take}
use Rattle.listing.specs.Inner.{puts}
use Rattle.listing.proofs.Text.put_all.Given as goal

abbrev pub invariant-loop-b : goal.invariant-loop-b
invariant-loop-b l = l.self ≡ puts l.initial.self (take l.b-index l.bytes)
