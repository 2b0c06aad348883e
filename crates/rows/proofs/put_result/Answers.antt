-- `rows::put_result` meets its contract: the row of ten, and the number behind it. Assumes nothing.
use mathlib.Core.Path.{refl, sym, ◌∙◌}
use borrow.Author.Tests.{eq-eqb}
use Rattle.rows.specs.Rows.{words_of, result_into}
use Rattle.rows.proofs.Laid.{numbered}
use Rattle.rows.proofs.put_result.Goals as goal

pub returns : goal.returns
unfolding result_into
returns c =
    simp (
      c.copy_from_slice.ensures.after,
      c.copy_from_slice-2.ensures.after,
      c.copy_from_slice-3.ensures.after,
      c.words_of.ensures,
      c.from.ensures,
      numbered (words_of c.args.a) c.args.words.now c.args.a.number refl c.if-words-ne11.false,
      sym c.is_message.ensures ∙ c.if-not-is_message.false,
      eq-eqb _ _ c.if-words-ne11.false,
      eq-eqb _ _ c.if-floats-ne2.false,
    )
