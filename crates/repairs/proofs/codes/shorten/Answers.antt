-- `repairs::codes::shorten` meets its contract. Assumes nothing.
use Rattle.lists.proofs.Table.{done_all}
use Rattle.repairs.specs.Inner.{short_codes}
use Rattle.repairs.proofs.codes.shorten.Goals as goal

pub returns : goal.returns
unfolding short_codes
returns c = done_all _ _ _ _ _ c.loop-code-test.false c.loop-code.invariant.0
