-- `scan::bits::compare` meets its contract. The loop: the bits before i are stored. Assumes nothing.
use Rattle.std.proofs.Common.{◌≤◌}
use Rattle.lists.proofs.Table.{Done}
use Rattle.scan.specs.Inner.{bit_in}
use Rattle.scan.proofs.bits.compare.Given as goal

abbrev pub invariant-loop-i : goal.invariant-loop-i
invariant-loop-i l = (l.i ≤ 1148) × Done 0 (bit_in l.row) 1152 l.bits l.i
