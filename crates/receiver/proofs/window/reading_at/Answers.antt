-- `receiver::window::reading_at` meets its contract: the window is scanned. Assumes nothing.
use mathlib.Core.Path.{refl}
use Rattle.search.specs.Kinds.{long}
use Rattle.receiver.proofs.Finding.{scan_done}
use Rattle.receiver.proofs.window.reading_at.Goals as goal

pub invariant_of-scanned : goal.invariant_of-scanned
unfolding long
invariant_of-scanned c =
    let w = scan_done long _ _ _ _ _ _ c.requires.0 refl refl refl refl refl c.scan.ensures in
    record { scanned = w.0; summed = w.1 }
