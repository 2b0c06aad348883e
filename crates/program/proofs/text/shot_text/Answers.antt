-- `program::text::shot_text` meets its contract: the lines of both answers.
-- Assumes nothing.
use Rattle.feed.specs.Listing.{window_text}
use Rattle.program.proofs.Texts.{floats_done}
use borrow.Author.Rules.{rules}
use Rattle.program.proofs.text.shot_text.Goals as goal

pub returns : goal.returns
unfolding window_text
returns c =
    rw (c.window_lines.ensures, c.decoded-both.ensures, floats_done _ _ c.requires (search rules) c.window_floats.ensures) (cc)
