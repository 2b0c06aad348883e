-- `listing::Text::put_found` meets its contract: ten fields, one after the other.
-- Assumes nothing.
use native.Mathlib.Omega.{arith}
use Rattle.annex10.proofs.Length.{kind_small}
use Rattle.listing.specs.Lines.{line, found_line}
use Rattle.listing.specs.Inner.{answer_of}
use Rattle.listing.proofs.Puts.{puts_nil, puts_cons, puts_append}
use Rattle.listing.proofs.Lengths.{found_short}
use borrow.Author.Rules.{rules}
use Rattle.listing.proofs.Text.put_found.Goals as goal

pub returns : goal.returns
unfolding found_line line
returns c =
    let a = c.args in
    let m = kind_small a.entry.now.kind in (
      simp (puts_nil, puts_cons, puts_append) (cc),
      omega (arith, found_short a.window (answer_of a.entry.now) c.put_repairs.ensures.1 (search rules) (search rules), m, c.type_inv.entry),
    )
