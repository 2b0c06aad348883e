-- `timing::turns::settle_from` meets its contract. The loop's invariant: the fraction is in range, comes to rest where the first one does,
-- and the index with the moves that are left is the first index with all of them. The measure is the number of turns that the tests leave.
-- Assumes nothing.
use Rattle.timing.proofs.Turning.{todo}
use Rattle.timing.proofs.Keeping.{Kept}
use Rattle.timing.proofs.turns.settle_from.Given as goal

abbrev pub invariant-loop-fraction : goal.invariant-loop-fraction
invariant-loop-fraction l = Kept l.fn.index l.fn.fraction l.index l.fraction

abbrev pub decreases-loop-fraction : goal.decreases-loop-fraction
decreases-loop-fraction l = todo l.fraction
