-- `listing::lines::message_lines` meets its contract: one line behind the other.
-- Assumes nothing.
use native.Mathlib.Omega.{arith}
use lib.ListN.{length-append}
use Rattle.listing.specs.Lines.{text_of}
use Rattle.listing.proofs.Puts.{puts_append, finished}
use Rattle.listing.proofs.lines.message_lines.Goals as goal

pub returns : goal.returns
unfolding text_of
returns c =
    finished _ (simp length-append (omega (arith, c.put_message.ensures.1, c.put_message-2.ensures.1)))
    (simp (puts_append, c.put_message-2.ensures.0, c.put_message.ensures.0))
