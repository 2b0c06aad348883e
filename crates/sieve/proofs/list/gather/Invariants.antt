-- `sieve::list::gather` meets its contract. The loop: the numbers of the first j places are stored. Assumes nothing.
use Rattle.std.proofs.Common.{◌*◌}
use Rattle.sieve.specs.Inner.{Gathered}
use Rattle.sieve.proofs.list.gather.Given as goal

abbrev pub invariant-loop-j : goal.invariant-loop-j
invariant-loop-j l = Gathered (8 * l.m) l.hash.shape l.hash.displacements.now l.hash.owners.now l.crcs l.others l.list l.asked l.j
