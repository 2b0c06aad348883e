-- `listing::lines::none_line` meets its contract: two fields.
-- Assumes nothing.
use Rattle.listing.specs.Lines.{line, none_line, text_of}
use Rattle.listing.proofs.Puts.{puts_nil, puts_cons, puts_append, finished}
use Rattle.listing.proofs.Lengths.{none_short}
use Rattle.listing.proofs.lines.none_line.Goals as goal

pub returns : goal.returns
unfolding none_line line text_of
returns c =
    finished (none_line c.args.window) (none_short c.args.window)
    (simp (puts_nil, puts_cons, puts_append, c.put_all.ensures, c.put_decimal.ensures))
