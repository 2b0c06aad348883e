-- `slicing::slicers::join` meets its contract. The loop: the first i numbers are stored. Assumes nothing.
use Prim.Native.Nat.{ℕ, ◌+◌, ◌*◌, ◌%◌, ◌^◌}
use lib.Bits.{bit_or}
use lib.ListN.{get_or, length}
use Rattle.lists.proofs.Table.{Done}
use Rattle.slicing.proofs.slicers.join.Given as goal

abbrev pub invariant-loop-i : goal.invariant-loop-i
invariant-loop-i l = Done 0 (λ (k : ℕ). bit_or (get_or l.halves (2 * k) 0 * 2 ^ l.width % 256) (get_or l.halves (2 * k + 1) 0)) (length l.initial.wholes) l.wholes l.i
