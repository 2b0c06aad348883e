-- `carrier::bins::first_greatest` meets its contract. The loop: the holder is the first greatest of the bins before start + j. Assumes nothing.
use Prim.Native.Nat.{◌-◌, ◌<◌}
use native.Mathlib.Omega.{arith}
use lib.Ieee.{Float}
use Rattle.std.proofs.lemmas.List.{length-take, length-drop}
use Rattle.carrier.proofs.Walking.{peak_took, peak_kept}
use Rattle.carrier.proofs.bins.first_greatest.Goals as goal
use Rattle.carrier.proofs.bins.first_greatest.Goals.{then-value-best, else-value-best}

pub loop-j-preserved : goal.loop-j-preserved
loop-j-preserved c =
    let h : c.loop-j.j < c.args.end - c.args.start = omega (arith, length-take {A = Float}, length-drop {A = Float}) in
    elim c.if-value-best.branch [
      | then-value-best w ↦ peak_took _ _ _ _ h c.loop-j.invariant w.if-value-best.true w.best-is
      | else-value-best w ↦ peak_kept _ _ _ _ h c.loop-j.invariant w.if-value-best.false w.best-is
    ]
