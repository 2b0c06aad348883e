-- `scan::stream::byte_from` meets its contract. The loop: the number has the first m bits. Assumes nothing.
use Rattle.std.proofs.Common.{◌≡◌, ◌≤◌}
use Rattle.lists.specs.Bits.{value}
use Rattle.scan.specs.Lanes.{lane_bit}
use Rattle.scan.proofs.stream.byte_from.Given as goal

abbrev pub invariant-loop-m : goal.invariant-loop-m
invariant-loop-m l = (l.m ≤ 8) × (l.b ≡ value (lane_bit l.bits l.p) 0 l.m)
