-- `scan::marks::gather` meets its contract. The loops: the places before this one are listed. Assumes nothing.
use Rattle.std.proofs.Common.{◌≡◌, ◌+◌, ◌*◌, ◌≤◌, length, take}
use Rattle.scan.specs.Sieve.{kept}
use Rattle.scan.specs.Inner.{marked}
use Rattle.scan.proofs.marks.gather.Given as goal

abbrev pub invariant-loop-k : goal.invariant-loop-k
invariant-loop-k l = (l.k ≤ 8) × (l.count ≤ 8 * l.o + l.k) × (length l.places ≡ 8 * l.m) × (take l.count l.places ≡ kept (marked l.marks) (8 * l.o + l.k))

abbrev pub invariant-loop-o : goal.invariant-loop-o
invariant-loop-o l = (l.o ≤ l.m) × (l.count ≤ 8 * l.o) × (length l.places ≡ 8 * l.m) × (take l.count l.places ≡ kept (marked l.marks) (8 * l.o))
