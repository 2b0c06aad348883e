-- `scan::first::first_row` meets its contract. The loops: the remainders have the bytes before i, and those of the first t lanes byte i
-- too. Assumes nothing.
use Rattle.std.proofs.Common.{◌+◌, ◌≤◌, length}
use Rattle.lists.proofs.Table.{Done}
use Rattle.scan.specs.Flat.{crc_in}
use Rattle.scan.proofs.Dividing.{Lanes}
use Rattle.scan.proofs.first.first_row.Given as goal

abbrev pub invariant-loop-t : goal.invariant-loop-t
invariant-loop-t l = Lanes (crc_in l.i l.bits) (crc_in (l.i + 1) l.bits) l.crc-items l.t

abbrev pub invariant-loop-i : goal.invariant-loop-i
invariant-loop-i l = (l.i ≤ l.n) × Done 0 (crc_in l.i l.bits) 8 l.row 8

abbrev pub invariant-loop-t-2 : goal.invariant-loop-t-2
invariant-loop-t-2 l = Done 0 (crc_in l.n l.bits) (length l.initial.crcs) l.crcs l.t
