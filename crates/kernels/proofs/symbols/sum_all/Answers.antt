-- `kernels::symbols::sum_all` meets its contract. The loop: the sums before i are stored. Assumes nothing.
use native.Mathlib.Omega.{arith}
use Rattle.lists.proofs.Table.{done_more, done_all}
use Rattle.kernels.specs.Symbols.{sums_of}
use Rattle.kernels.specs.Inner.{four_from}
use Rattle.kernels.proofs.Summing.{four_is}
use Rattle.kernels.proofs.symbols.sum_all.Goals as goal

pub loop-i-preserved : goal.loop-i-preserved
unfolding four_from
loop-i-preserved c = done_more _ _ _ _ _ _ (omega arith) c.loop-i.invariant (four_is _ _)

pub returns : goal.returns
unfolding sums_of
returns c = done_all _ _ _ _ _ (omega arith) c.loop-i.invariant
