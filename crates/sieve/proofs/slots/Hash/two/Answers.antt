-- `sieve::slots::Hash::two` meets its contract. Assumes nothing.
use Rattle.sieve.specs.Tables.{two_displacements, two_owners}
use Rattle.sieve.proofs.Owning.{slotted}
use Rattle.sieve.proofs.Owned.{two_owners_law}
use Rattle.sieve.proofs.slots.Hash.two.Goals as goal

pub invariant_of-result : goal.invariant_of-result
unfolding two_displacements two_owners
invariant_of-result c = record { slotted = slotted _ _ _ two_owners_law.shaped }

pub returns : goal.returns
unfolding two_displacements two_owners
returns c = two_owners_law
