-- `sieve::slots::Hash::one` meets its contract. Assumes nothing.
use Rattle.sieve.specs.Tables.{one_displacements, one_owners}
use Rattle.sieve.proofs.Owning.{slotted}
use Rattle.sieve.proofs.Owned.{one_owners_law}
use Rattle.sieve.proofs.slots.Hash.one.Goals as goal

pub invariant_of-result : goal.invariant_of-result
unfolding one_displacements one_owners
invariant_of-result c = record { slotted = slotted _ _ _ one_owners_law.shaped }

pub returns : goal.returns
unfolding one_displacements one_owners
returns c = one_owners_law
