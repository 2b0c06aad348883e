-- `streams::distance::differing_bits` meets its contract. The loop: the distance is that of the first k bytes. Assumes nothing.
use mathlib.Core.Path.{◌≡◌}
use Prim.Native.Nat.{◌*◌, ◌-◌, ◌≤◌}
use Rattle.streams.specs.Streams.{message_at}
use Rattle.streams.specs.Distances.{differing}
use Rattle.streams.proofs.distance.differing_bits.Given as goal

abbrev pub invariant-loop-k : goal.invariant-loop-k
invariant-loop-k l = (l.k ≤ l.n) × (l.distance ≡ differing (message_at l.a l.n l.offset) (message_at l.b l.n l.offset) (8 * l.k))

abbrev pub decreases-loop-k : goal.decreases-loop-k
decreases-loop-k l = l.n - l.k
