-- `slicing::slicers::take_apart` meets its contract. The loop: the first i bits of each stream are stored. Assumes nothing.
use Prim.Native.Nat.{ℕ, ◌+◌, ◌*◌, ◌/◌, ◌%◌, ◌<◌}
use lib.ListN.{get_or}
use Rattle.lists.proofs.Table.{Where}
use Rattle.slicing.proofs.slicers.take_apart.Given as goal

abbrev pub invariant-loop-i : goal.invariant-loop-i
invariant-loop-i l = Where 0 (λ (j : ℕ). get_or l.bits (2 * (j % 144) + j / 144) 0) 288 l.apart (λ (j : ℕ). j % 144 < l.i)
