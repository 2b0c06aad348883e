-- `scan::first::first_row` meets its contract. The loops: the remainders have the bytes before i, and those of the first t lanes byte i
-- too. Assumes nothing.
use Rattle.std.proofs.Common.{arith}
use Rattle.scan.proofs.Dividing.{crc_none, crc_more, zeros_done, lanes_more}
use Rattle.scan.proofs.first.first_row.Goals as goal

pub loop-i-init : goal.loop-i-init
loop-i-init c = (omega arith, zeros_done _ (crc_none _))

pub loop-t-preserved : goal.loop-t-preserved
loop-t-preserved c =
    let k = c.loop-t in
    let h = c.loop-t-test.true in
    lanes_more _ _ _ k.t _ h k.invariant (crc_more c.loop-i.i c.args.bits.now k.t (k.invariant.old k.t (omega arith) h) (c.bytes_at-bytes.ensures.each k.t h) c.bring_byte.ensures)
