-- `carrier::bins::first_greatest` meets its contract. The loop: the holder is the first greatest of the bins before start + j. Assumes nothing.
use mathlib.Core.Path.{◌≡◌}
use Rattle.carrier.specs.Peaks.{peak_from}
use Rattle.carrier.proofs.bins.first_greatest.Given as goal

abbrev pub invariant-loop-j : goal.invariant-loop-j
invariant-loop-j l = l.best ≡ peak_from l.spectrum l.start l.j
