-- `repairs::rows::find_codes` meets its contract. Assumes nothing.
use mathlib.Core.Path.{◌≡◌, refl, sym, ◌∙◌}
use lib.ListN.{get_or}
use Rattle.lists.proofs.Table.{done_none, done_more, done_all}
use Rattle.repairs.specs.Codes.{code_up_to, codes_up_to}
use Rattle.repairs.proofs.Coding.{code_is_zero, code_by, code_same}
use Rattle.repairs.proofs.rows.find_codes.Goals as goal
use Rattle.repairs.proofs.rows.find_codes.Goals.{then-crc-last, else-crc-last}

pub loop-i-init : goal.loop-i-init
loop-i-init c = (done_none _ _ _ _ c.requires.1, code_is_zero _ 0 refl)

pub loop-i-preserved : goal.loop-i-preserved
loop-i-preserved c =
    let l = c.loop-i in
    let crc = get_or c.args.crcs.now l.i 0 in
    let j = c.if-crc-last in
    let e : (j.last ≡ crc) × (j.code ≡ code_up_to 14 c.args.level crc) = elim j.branch [
      | then-crc-last w ↦ (w.last-is, w.code-is ∙ code_by c.args.level crc w.fewest.ensures w.code_of-code.ensures)
      | else-crc-last w ↦ (w.last-is ∙ sym w.if-crc-last.false, w.code-is ∙ code_same c.args.level l.invariant.1 w.if-crc-last.false)
    ] in
    (done_more _ _ _ _ _ _ c.loop-i-test.true l.invariant.0 e.1, code_same c.args.level e.1 e.0)

pub returns : goal.returns
unfolding codes_up_to
returns c = done_all _ _ _ _ _ c.loop-i-test.false c.loop-i.invariant.0
