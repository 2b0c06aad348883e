-- `scan::first::bytes_at` meets its contract. The loops: the bytes have the bits before j, and those of the first t lanes bit j too.
-- Assumes nothing.
use Rattle.std.proofs.Common.{◌+◌, ◌≤◌}
use Rattle.lists.proofs.Table.{Done}
use Rattle.scan.specs.Inner.{byte_in}
use Rattle.scan.proofs.Dividing.{Lanes}
use Rattle.scan.proofs.first.bytes_at.Given as goal

abbrev pub invariant-loop-t : goal.invariant-loop-t
invariant-loop-t l = Lanes (byte_in l.i l.j l.bits) (byte_in l.i (l.j + 1) l.bits) l.byte-items l.t

abbrev pub invariant-loop-j : goal.invariant-loop-j
invariant-loop-j l = (l.j ≤ 8) × Done 0 (byte_in l.i l.j l.bits) 8 l.bytes 8
