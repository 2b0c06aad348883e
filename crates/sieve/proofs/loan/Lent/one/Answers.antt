-- `sieve::loan::Lent::one` meets its contract. Assumes nothing.
use Rattle.std.proofs.Common.{arith}
use Rattle.sieve.proofs.Picking.{part_length}
use Rattle.sieve.proofs.Asking.{slotted_one}
use Rattle.sieve.proofs.loan.Lent.one.Goals as goal

pub slice_bounds-result-end : goal.slice_bounds-result-end
slice_bounds-result-end c = let s = c.args.self.now in part_length 128 s.displacements.now (omega (arith, s.all_displacements))

pub slice_bounds-result-end-2 : goal.slice_bounds-result-end-2
slice_bounds-result-end-2 c = let s = c.args.self.now in part_length 512 s.owners.now (omega (arith, s.all_owners))

pub invariant_of-result : goal.invariant_of-result
invariant_of-result c = let s = c.args.self.now in record { slotted = slotted_one s.displacements.now s.owners.now s.all_displacements s.all_owners s.bytes }
