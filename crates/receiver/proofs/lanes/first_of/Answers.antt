-- `receiver::lanes::first_of` meets its contract: the call is never refused. Assumes nothing.
use mathlib.Core.Path.{◌∙◌}
use native.Mathlib.Omega.{arith}
use Rattle.scan.proofs.Packing.{byte_done}
use Rattle.receiver.proofs.Never.{unwrapped}
use Rattle.receiver.proofs.lanes.first_of.Goals as goal

pub returns : goal.returns
returns c = unwrapped _ _ c.unwrap_or.ensures (c.find_first_byte.ensures ∙ byte_done c.args.bits.now c.args.start c.requires.0 (omega (arith, c.requires.1)))
