-- `scan::first::bytes_at` meets its contract. The loops: the bytes have the bits before j, and those of the first t lanes bit j too.
-- Assumes nothing.
use Rattle.std.proofs.Common.{arith}
use Rattle.scan.proofs.Dividing.{byte_none, byte_more, zeros_done, lanes_more}
use Rattle.scan.proofs.first.bytes_at.Goals as goal

pub loop-j-init : goal.loop-j-init
loop-j-init c = (omega arith, zeros_done _ (byte_none _ _))

pub loop-t-preserved : goal.loop-t-preserved
loop-t-preserved c =
    let k = c.loop-t in
    let h = c.loop-t-test.true in
    lanes_more _ _ _ k.t _ h k.invariant (byte_more c.args.i c.args.bits.now c.requires.1 c.loop-j.j k.t c.loop-j-test.true (k.invariant.old k.t (omega arith) h))
