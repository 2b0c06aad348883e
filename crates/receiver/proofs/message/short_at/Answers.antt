-- `receiver::message::short_at` meets its contract: neither the part nor the repair is refused.
-- Assumes nothing.
use mathlib.Core.Path.{◌∙◌}
use Rattle.parts.specs.Part.{chosen}
use Rattle.search.specs.Kinds.{short}
use Rattle.receiver.proofs.Never.{unwrapped}
use Rattle.receiver.proofs.EitherKind.{right_short}
use Rattle.receiver.proofs.Looking.{bytes_are, message_is}
use Rattle.receiver.proofs.message.short_at.Goals as goal

pub returns : goal.returns
unfolding short
returns c =
    let a = c.args in
    let l = a.location in
    let first = a.coherent.now in
    let second = a.noncoherent.now in
    message_is short right_short (chosen l.slicer first second) l c.requires.1
    (unwrapped _ _ c.unwrap_or-bytes.ensures (c.message_from_part_short.ensures ∙ bytes_are short right_short first second l c.requires.0 c.requires.1 c.slicer_part-part.ensures))
    c.correct_message_bit_errors.ensures
