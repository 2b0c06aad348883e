-- `receiver::tray::both_at` meets its contract. Assumes nothing.
use mathlib.Core.Path.{◌∙◌}
use Rattle.receiver.proofs.tray.both_at.Goals as goal

pub returns : goal.returns
returns c =
    let e = c.both_in.ensures in
    let w = c.window_at.ensures in
    (e.0 ∙ rw w, e.1 ∙ rw w)
