-- `listing::lines::word_line` meets its contract: two fields.
-- Assumes nothing.
use Rattle.listing.specs.Lines.{line, text_of}
use Rattle.listing.proofs.Puts.{puts_nil, puts_cons, puts_append, finished}
use Rattle.listing.proofs.Lengths.{word_short}
use Rattle.listing.proofs.lines.word_line.Goals as goal

pub returns : goal.returns
unfolding line text_of
returns c =
    finished _ (word_short c.args.word.now c.args.number c.requires)
    (simp (puts_nil, puts_cons, puts_append, c.put-2.ensures, c.put_decimal.ensures, c.put.ensures, c.put_all.ensures))
