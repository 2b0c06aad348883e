-- `kernels::symbols::set_out` meets its contract. The loops: symbols and phases up to here are stored. Assumes nothing.
use native.Mathlib.Omega.{arith}
use lib.ListN.{length-set}
use Rattle.lists.proofs.Table.{where_all}
use Rattle.kernels.specs.Symbols.{symbols_in}
use Rattle.kernels.proofs.Summing.{pair_more, pairs_start, pairs_end}
use Rattle.kernels.proofs.symbols.set_out.Goals as goal

pub loop-n-init : goal.loop-n-init
loop-n-init c = record { size = c.requires.1; each = λ j h q. absurd (omega arith) }

pub loop-k-init : goal.loop-k-init
loop-k-init c = pairs_start _ _ _ c.loop-n.invariant

pub bounds-symbols-to-in-loop-k : goal.bounds-symbols-to-in-loop-k
bounds-symbols-to-in-loop-k c = simp length-set (omega arith)

pub loop-k-preserved : goal.loop-k-preserved
loop-k-preserved c = pair_more _ _ _ _ c.loop-n-test.true c.loop-k-test.true c.loop-k.invariant

pub loop-n-preserved : goal.loop-n-preserved
loop-n-preserved c = pairs_end _ _ _ _ c.loop-k-test.false c.loop-k.invariant

pub returns : goal.returns
unfolding symbols_in
returns c = where_all _ _ _ _ _ (λ j h. omega arith) c.loop-n.invariant
