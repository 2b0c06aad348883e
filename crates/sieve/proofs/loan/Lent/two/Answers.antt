-- `sieve::loan::Lent::two` meets its contract. Assumes nothing.
use Rattle.sieve.proofs.Asking.{rest, slotted_two}
use Rattle.sieve.proofs.loan.Lent.two.Goals as goal

pub invariant_of-result : goal.invariant_of-result
invariant_of-result c =
    let s = c.args.self.now in
    record { slotted = slotted_two s.displacements.now s.owners.now s.all_displacements s.all_owners s.bytes (rest 512 s.owners.now) }

pub returns-clause-owners : goal.returns-clause-owners
returns-clause-owners c = rest 512 c.args.self.now.owners.now
