-- `sieve::keep::keep` meets its contract. The loop: of the first m places those that are taken are stored. Assumes nothing.
use Rattle.sieve.proofs.Picking.{Kept}
use Rattle.sieve.proofs.keep.keep.Given as goal

abbrev pub invariant-loop-m : goal.invariant-loop-m
invariant-loop-m l = Kept l.through l.told l.initial.list l.initial.codes l.m l.kept l.list l.codes
