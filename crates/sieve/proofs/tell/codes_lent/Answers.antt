-- `sieve::tell::codes_lent` meets its contract. Assumes nothing.
use Rattle.lists.proofs.Table.{done_none, done_all}
use Rattle.repairs.specs.Codes.{codes_up_to}
use Rattle.sieve.proofs.Picking.{code_zero}
use Rattle.sieve.proofs.tell.codes_lent.Goals as goal

pub loop-i-init : goal.loop-i-init
loop-i-init c = (done_none _ _ _ _ c.requires.1, code_zero c.args.kind c.args.level)

pub returns : goal.returns
unfolding codes_up_to
returns c = done_all _ _ _ _ _ c.loop-i-test.false c.loop-i.invariant.0
