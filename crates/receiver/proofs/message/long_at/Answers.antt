-- `receiver::message::long_at` meets its contract: neither the part nor the repair is refused.
-- Assumes nothing.
use mathlib.Core.Path.{◌∙◌}
use Rattle.parts.specs.Part.{chosen}
use Rattle.search.specs.Kinds.{long}
use Rattle.receiver.proofs.Never.{unwrapped}
use Rattle.receiver.proofs.EitherKind.{right_long}
use Rattle.receiver.proofs.Looking.{bytes_are, message_is}
use Rattle.receiver.proofs.message.long_at.Goals as goal

pub returns : goal.returns
unfolding long
returns c =
    let a = c.args in
    let l = a.location in
    let first = a.coherent.now in
    let second = a.noncoherent.now in
    message_is long right_long (chosen l.slicer first second) l c.requires.1
    (unwrapped _ _ c.unwrap_or-bytes.ensures (c.message_from_part.ensures ∙ bytes_are long right_long first second l c.requires.0 c.requires.1 c.slicer_part-part.ensures))
    c.correct_message_bit_errors.ensures
