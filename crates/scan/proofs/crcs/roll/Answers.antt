-- `scan::crcs::roll` meets its contract. Assumes nothing.
use Rattle.std.proofs.Common.{arith}
use Rattle.scan.proofs.Rolled.{step_is}
use Rattle.scan.proofs.crcs.roll.Goals as goal

pub returns : goal.returns
returns c = step_is _ _ _ _ (omega arith) c.requires.0 c.requires.1 c.requires.2 c.mask.ensures (rw c.from.ensures at c.mask-2.ensures) (rw c.from-2.ensures at c.mask-3.ensures)
