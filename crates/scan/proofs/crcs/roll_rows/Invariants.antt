-- `scan::crcs::roll_rows` meets its contract. The loop: the remainders before number i + 8 are stored. Assumes nothing.
use Rattle.std.proofs.Common.{◌+◌, ◌≤◌}
use Rattle.lists.proofs.Table.{Done}
use Rattle.scan.specs.Flat.{crc_in}
use Rattle.scan.proofs.crcs.roll_rows.Given as goal

abbrev pub invariant-loop-i : goal.invariant-loop-i
invariant-loop-i l = (l.i + 8 ≤ l.many) × Done 0 (crc_in l.n l.coherent) l.many l.crcs (l.i + 8) × Done 0 (crc_in l.n l.noncoherent) l.many l.others (l.i + 8)
