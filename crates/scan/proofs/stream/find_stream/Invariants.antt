-- `scan::stream::find_stream` meets its contract. The loop: the first k bytes are stored. Assumes nothing.
use Rattle.std.proofs.Common.{ℕ, ◌*◌}
use Rattle.lists.specs.Bits.{value}
use Rattle.lists.proofs.Table.{Done}
use Rattle.scan.specs.Lanes.{lane_bit}
use Rattle.scan.proofs.stream.find_stream.Given as goal

abbrev pub invariant-loop-k : goal.invariant-loop-k
invariant-loop-k l = Done 0 (λ (i : ℕ). value (lane_bit l.bits l.lane) (8 * i) 8) 18 l.out l.k
