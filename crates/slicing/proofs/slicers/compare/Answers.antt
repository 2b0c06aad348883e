-- `slicing::slicers::compare` meets its contract. The loop: the first i bits and their marks are stored. Assumes nothing.
use mathlib.Core.Bool.{not, ◌&&◌}
use native.Mathlib.Omega.{arith}
use lib.Ieee.{lt}
use Rattle.lists.proofs.Table.{done_more}
use Rattle.slicing.proofs.Slicing.{turn_inside, bits_done, marks_done}
use Rattle.slicing.proofs.slicers.compare.Goals as goal

pub loop-i-preserved : goal.loop-i-preserved
loop-i-preserved c =
    let l = c.loop-i in
    let xs = c.args.measures.now in
    let h = c.loop-i-test.true in (
      done_more _ _ _ _ _ _ (omega arith) l.invariant.0 (turn_inside (λ a b. lt b a) 0 xs l.i h c.bit_of_pair.ensures),
      done_more _ _ _ _ _ _ (omega arith) l.invariant.1 (turn_inside (λ a b. not (lt b a) && not (lt a b)) 1 xs l.i h c.mark_of_pair.ensures),
    )

pub returns : goal.returns
returns c =
    let l = c.loop-i in
    (bits_done _ _ _ (omega arith) c.loop-i-test.false l.invariant.0, marks_done _ _ _ (omega arith) c.loop-i-test.false l.invariant.1)
