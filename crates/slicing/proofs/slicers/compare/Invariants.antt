-- `slicing::slicers::compare` meets its contract. The loop: the first i bits and their marks are stored. Assumes nothing.
use mathlib.Core.Bool.{not, ◌&&◌}
use lib.Ieee.{lt}
use Rattle.lists.proofs.Table.{Done}
use Rattle.slicing.specs.Inner.{in_turn}
use Rattle.slicing.proofs.slicers.compare.Given as goal

abbrev pub invariant-loop-i : goal.invariant-loop-i
invariant-loop-i l = Done 0 (in_turn (λ a b. lt b a) 0 l.measures) 288 l.bits l.i × Done 0 (in_turn (λ a b. not (lt b a) && not (lt a b)) 1 l.measures) 288 l.marks l.i
