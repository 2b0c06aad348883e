-- The two hashes of specs/Tables keep their rule: their tests are computed here.
-- Assumes nothing.
use Rattle.lists.proofs.Tree.{grow}
use Rattle.annex10.proofs.Singles.{singles, singles_from}
use Rattle.sieve.specs.Tables.{one_displacements, one_owners, two_displacements, two_owners}
use Rattle.sieve.specs.Hash.{at_one, at_two}
use Rattle.sieve.specs.Inner.{Owners}
use Rattle.sieve.proofs.Placed.{read, stands}
use Rattle.sieve.proofs.Owning.{below_n, owns, single_owns, pair_owns, pairs_own, all_own, sizes, owner_rule, owner_law}

pub one_owners_law : Owners 1 at_one one_displacements one_owners
unfolding owner_rule sizes below_n read stands owns single_owns pair_owns pairs_own all_own grow singles singles_from one_displacements one_owners
one_owners_law = owner_law 1 15 7 9 16 one_displacements one_owners tt

pub two_owners_law : Owners 2 at_two two_displacements two_owners
unfolding owner_rule sizes below_n read stands owns single_owns pair_owns pairs_own all_own grow singles singles_from two_displacements two_owners
two_owners_law = owner_law 2 11 11 13 12 two_displacements two_owners tt
