-- `slicing::slicers::join` meets its contract. The loop: the first i numbers are stored. Assumes nothing.
use mathlib.Core.Path.{refl}
use native.Mathlib.Omega.{arith}
use Rattle.lists.proofs.Table.{done_more, done_all}
use Rattle.slicing.specs.Inner.{joined}
use Rattle.slicing.proofs.slicers.join.Goals as goal

pub loop-i-preserved : goal.loop-i-preserved
loop-i-preserved c = done_more _ _ _ _ _ _ (omega arith) c.loop-i.invariant refl

pub returns : goal.returns
unfolding joined
returns c = done_all _ _ _ _ _ (omega arith) c.loop-i.invariant
