-- `receiver::window::best_of_both` meets its contract: the window is scanned once, and each search is made in stages. Assumes nothing.
use mathlib.Core.Path.{refl, sym, ap, ◌∙◌}
use lib.ListN.{length}
use Rattle.receiver.proofs.Finding.{both_scanned}
use Rattle.kernels.proofs.Summing.{sums_length}
use Rattle.receiver.proofs.window.best_of_both.Goals as goal

pub invariant_of-long : goal.invariant_of-long
invariant_of-long c =
    let w = both_scanned _ _ _ _ _ _ _ _ c.requires.0 c.requires.2 refl refl refl refl refl refl c.scan_both.ensures in
    record { scanned = w.0; summed = w.2 }

pub invariant_of-short : goal.invariant_of-short
invariant_of-short c =
    let w = both_scanned _ _ _ _ _ _ _ _ c.requires.0 c.requires.2 refl refl refl refl refl refl c.scan_both.ensures in
    record { scanned = w.1; summed = w.2 }

pub shape_of-sums : goal.shape_of-sums
shape_of-sums c =
    let w = both_scanned _ _ _ _ _ _ _ _ c.requires.0 c.requires.2 refl refl refl refl refl refl c.scan_both.ensures in
    ap length w.2 ∙ sums_length c.args.samples.now ∙ sym c.requires.2

pub returns : goal.returns
returns c =
    let w = both_scanned _ _ _ _ _ _ _ _ c.requires.0 c.requires.2 refl refl refl refl refl refl c.scan_both.ensures in
    (c.best_long.ensures, c.best_short.ensures, w.2)
