-- `slicing::slicers::take_apart` meets its contract. The loop: the first i bits of each stream are stored. Assumes nothing.
use native.Mathlib.Omega.{arith}
use lib.ListN.{length-set}
use Rattle.lists.proofs.Table.{where_all}
use Rattle.slicing.specs.Inner.{apart_of}
use Rattle.slicing.proofs.Joining.{apart_more}
use Rattle.slicing.proofs.slicers.take_apart.Goals as goal

pub loop-i-init : goal.loop-i-init
loop-i-init c = record { size = c.requires.1; each = λ k l q. absurd (omega arith) }

pub bounds-apart-i-in-loop-i : goal.bounds-apart-i-in-loop-i
bounds-apart-i-in-loop-i c = simp length-set (omega arith)

pub loop-i-preserved : goal.loop-i-preserved
loop-i-preserved c = apart_more c.args.bits.now _ _ c.loop-i-test.true c.loop-i.invariant

pub returns : goal.returns
unfolding apart_of
returns c = where_all _ _ _ _ _ (λ k l. omega arith) c.loop-i.invariant
