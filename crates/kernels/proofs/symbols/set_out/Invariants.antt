-- `kernels::symbols::set_out` meets its contract. The loops: symbols and phases up to here are stored. Assumes nothing.
use Prim.Native.Nat.{ℕ, ◌*◌, ◌%◌, ◌<◌}
use lib.Ieee.{nan}
use Rattle.lists.proofs.Table.{Where}
use Rattle.kernels.specs.Symbols.{symbol_in}
use Rattle.kernels.proofs.Summing.{Stored}
use Rattle.kernels.proofs.symbols.set_out.Given as goal

abbrev pub invariant-loop-k : goal.invariant-loop-k
invariant-loop-k l = Where nan (symbol_in l.sums) 2304 l.symbols (Stored l.n (2 * l.k))

abbrev pub invariant-loop-n : goal.invariant-loop-n
invariant-loop-n l = Where nan (symbol_in l.sums) 2304 l.symbols (λ (j : ℕ). j % 576 < 2 * l.n)
