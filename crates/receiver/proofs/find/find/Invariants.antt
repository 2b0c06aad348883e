-- `receiver::find::find` meets its contract. The loop's invariant: what is held is the best of the first q places of the list.
-- Assumes nothing.
use mathlib.Core.Path.{◌≡◌}
use mathlib.Core.Option.{none}
use lib.ListN.{take}
use Rattle.place.specs.All.{place_at}
use Rattle.search.specs.Choice.{candidate_at}
use Rattle.search.specs.Seen.{seen}
use Rattle.receiver.specs.Inner.{kind_of, held_of, over}
use Rattle.receiver.proofs.find.find.Given as goal

abbrev pub invariant-loop-q : goal.invariant-loop-q
invariant-loop-q l = l.held ≡ held_of (kind_of l.scan.kind) (over (candidate_at (kind_of l.scan.kind) l.s (seen (kind_of l.scan.kind) l.scan.samples.now)) place_at none (take l.q l.places.numbers.now))
