-- `receiver::tray::decode_at` meets its contract. Assumes nothing.
use mathlib.Core.Path.{◌∙◌}
use Rattle.receiver.proofs.tray.decode_at.Goals as goal

pub returns : goal.returns
returns c = c.decode_in.ensures ∙ rw c.window_at.ensures
