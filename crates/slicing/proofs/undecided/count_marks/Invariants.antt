-- `slicing::undecided::count_marks` meets its contract. The loop: the marks of the first j bits are counted. Assumes nothing.
use mathlib.Core.Path.{◌≡◌}
use Prim.Native.Nat.{◌≤◌}
use Rattle.slicing.specs.Undecided.{undecided_in}
use Rattle.slicing.proofs.undecided.count_marks.Given as goal

abbrev pub invariant-loop-j : goal.invariant-loop-j
invariant-loop-j l = (l.count ≡ undecided_in l.slicer l.symbols l.j) × (l.count ≤ l.j)
