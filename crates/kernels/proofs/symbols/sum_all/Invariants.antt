-- `kernels::symbols::sum_all` meets its contract. The loop: the sums before i are stored. Assumes nothing.
use lib.Ieee.{nan}
use Rattle.lists.proofs.Table.{Done}
use Rattle.kernels.specs.Symbols.{sum_part}
use Rattle.kernels.proofs.symbols.sum_all.Given as goal

abbrev pub invariant-loop-i : goal.invariant-loop-i
invariant-loop-i l = Done nan (sum_part l.samples) 2304 l.sums l.i
