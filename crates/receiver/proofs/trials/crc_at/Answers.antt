-- `receiver::trials::crc_at` meets its contract: the call is never refused.
-- Assumes nothing.
use mathlib.Core.Path.{◌∙◌}
use Rattle.streams.proofs.Reading.{crc_done}
use Rattle.receiver.proofs.Never.{unwrapped}
use Rattle.receiver.proofs.trials.crc_at.Goals as goal

pub returns : goal.returns
returns c = unwrapped _ _ c.unwrap_or.ensures (c.compute_crc.ensures ∙ crc_done 14 _ _ c.requires.0 c.requires.1)
