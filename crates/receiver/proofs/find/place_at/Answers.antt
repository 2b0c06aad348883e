-- `receiver::find::place_at` meets its contract: the number of a place is not refused.
-- Assumes nothing.
use mathlib.Core.Path.{◌∙◌}
use Rattle.receiver.proofs.Never.{unwrapped}
use Rattle.receiver.proofs.Prompting.{at_done}
use Rattle.receiver.proofs.find.place_at.Goals as goal

pub returns : goal.returns
returns c = unwrapped _ _ c.unwrap_or.ensures (c.numbered.ensures ∙ at_done _ _ c.requires)
