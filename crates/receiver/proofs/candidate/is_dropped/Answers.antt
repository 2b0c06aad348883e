-- `receiver::candidate::is_dropped` meets its contract: settings that are taken are not refused.
-- Assumes nothing.
use mathlib.Core.Path.{◌∙◌}
use Rattle.receiver.proofs.Never.{unwrapped}
use Rattle.receiver.proofs.Weighing.{filter_is}
use Rattle.receiver.proofs.candidate.is_dropped.Goals as goal

pub returns : goal.returns
returns c = unwrapped _ _ c.unwrap_or.ensures (c.filter_out_decode_candidate.ensures ∙ filter_is _ _ _ c.requires.0 c.requires.1)
