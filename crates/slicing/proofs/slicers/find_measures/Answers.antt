-- `slicing::slicers::find_measures` meets its contract. The loop: the first i measures are stored. Assumes nothing.
use native.Mathlib.Omega.{arith}
use Rattle.lists.proofs.Table.{done_more, done_all}
use Rattle.slicing.specs.Inner.{measures_of}
use Rattle.slicing.proofs.slicers.find_measures.Goals as goal

pub loop-i-preserved : goal.loop-i-preserved
loop-i-preserved c = done_more _ _ _ _ _ _ (omega arith) c.loop-i.invariant c.measure_at.ensures

pub returns : goal.returns
unfolding measures_of
returns c = done_all _ _ _ _ _ (omega arith) c.loop-i.invariant
