-- `program::read_part` answers within the part, and ends.
-- Assumes nothing.
use Rattle.std.proofs.Common.{◌-◌, ◌≤◌, length}
use Rattle.program.proofs.read_part.Given as goal

abbrev pub invariant-loop-n : goal.invariant-loop-n
invariant-loop-n l = l.n ≤ length l.part

abbrev pub decreases-loop-n : goal.decreases-loop-n
decreases-loop-n l = length l.part - l.n
