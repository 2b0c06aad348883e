-- `sieve::list::list_in` meets its contract. The loops: the places before this one are listed. Assumes nothing.
use Rattle.std.proofs.Common.{◌≡◌, ◌+◌, ◌*◌, ◌≤◌, take}
use Rattle.scan.specs.Sieve.{kept}
use Rattle.sieve.specs.Inner.{let_in}
use Rattle.sieve.proofs.list.list_in.Given as goal

abbrev pub invariant-loop-k : goal.invariant-loop-k
invariant-loop-k l = (l.count ≤ 8 * l.o + l.k)
    × (take l.count l.list ≡ kept (let_in l.hash.shape l.hash.displacements.now l.hash.owners.now l.crcs l.others) (8 * l.o + l.k))

abbrev pub invariant-loop-o : goal.invariant-loop-o
invariant-loop-o l = (l.count ≤ 8 * l.o)
    × (take l.count l.list ≡ kept (let_in l.hash.shape l.hash.displacements.now l.hash.owners.now l.crcs l.others) (8 * l.o))
