-- `receiver::by_trial::list_all` meets its contract. The loop: the first k numbers are stored. Assumes nothing.
use mathlib.Core.Path.{refl}
use Rattle.lists.proofs.Table.{done_none, done_more, done_all}
use Rattle.receiver.proofs.by_trial.list_all.Goals as goal

pub loop-k-init : goal.loop-k-init
loop-k-init c = done_none _ _ _ _ refl

pub loop-k-preserved : goal.loop-k-preserved
loop-k-preserved c = done_more _ _ _ _ _ _ c.loop-k-test.true c.loop-k.invariant refl

pub returns : goal.returns
returns c = done_all _ _ _ _ _ c.loop-k-test.false c.loop-k.invariant
