-- `scan::marks::mark_exact` meets its contract. The loop: the marks before i are stored. Assumes nothing.
use Rattle.std.proofs.Common.{arith}
use Rattle.lists.proofs.Table.{done_more, done_all}
use Rattle.scan.specs.Inner.{exact_marks}
use Rattle.scan.proofs.Listing.{exact_bit}
use Rattle.scan.proofs.marks.mark_exact.Goals as goal

pub loop-i-preserved : goal.loop-i-preserved
loop-i-preserved c =
    let l = c.loop-i in
    let a = c.args in
    done_more _ _ _ _ _ _ (omega arith) l.invariant (exact_bit a.lead a.coherent.now a.noncoherent.now a.crcs.now a.others.now l.i c.clean.ensures c.clean-in-loop-i.ensures)

pub returns : goal.returns
unfolding exact_marks
returns c = done_all _ _ _ _ _ (omega arith) c.loop-i.invariant
