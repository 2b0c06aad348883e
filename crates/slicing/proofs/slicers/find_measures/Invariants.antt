-- `slicing::slicers::find_measures` meets its contract. The loop: the first i measures are stored. Assumes nothing.
use Prim.Native.Nat.{ℕ}
use lib.Ieee.{nan}
use Rattle.lists.proofs.Table.{Done}
use Rattle.kernels.specs.Symbols.{complex_at}
use Rattle.slicing.specs.Slices.{measure}
use Rattle.slicing.proofs.slicers.find_measures.Given as goal

abbrev pub invariant-loop-i : goal.invariant-loop-i
invariant-loop-i l = Done nan (λ (j : ℕ). measure l.slicer (complex_at l.row j)) 288 l.measures l.i
