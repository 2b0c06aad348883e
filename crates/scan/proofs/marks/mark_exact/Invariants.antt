-- `scan::marks::mark_exact` meets its contract. The loop: the marks before i are stored. Assumes nothing.
use Rattle.std.proofs.Common.{length}
use Rattle.lists.proofs.Table.{Done}
use Rattle.scan.specs.Inner.{exact_mark}
use Rattle.scan.proofs.marks.mark_exact.Given as goal

abbrev pub invariant-loop-i : goal.invariant-loop-i
invariant-loop-i l = Done 0 (exact_mark l.lead l.coherent l.noncoherent l.crcs l.others) (length l.initial.marks) l.marks l.i
