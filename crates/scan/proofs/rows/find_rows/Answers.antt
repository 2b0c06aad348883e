-- `scan::rows::find_rows` meets its contract. The loop: the real parts and norms before i are stored. Assumes nothing.
use Rattle.std.proofs.Common.{refl, arith, rules}
use Rattle.lists.proofs.Table.{done_more, done_all}
use Rattle.kernels.specs.Symbols.{complex_at}
use Rattle.scan.specs.Inner.{reals_of, norms_of}
use Rattle.scan.proofs.rows.find_rows.Goals as goal

pub loop-i-preserved : goal.loop-i-preserved
unfolding complex_at
loop-i-preserved c = (search rules, done_more _ _ _ _ _ _ c.loop-i-test.true c.loop-i.invariant.1 refl, done_more _ _ _ _ _ _ c.loop-i-test.true c.loop-i.invariant.2 refl)

pub returns : goal.returns
unfolding reals_of norms_of
returns c = (done_all _ _ _ _ _ (omega arith) c.loop-i.invariant.1, done_all _ _ _ _ _ (omega arith) c.loop-i.invariant.2)
