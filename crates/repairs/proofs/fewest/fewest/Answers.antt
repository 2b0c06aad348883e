-- `repairs::fewest::fewest` meets its contract: no position, else one, else two, as far as the level asks. Assumes nothing.
use mathlib.Core.Path.{◌≡◌, sym, ap, ◌∙◌}
use native.Mathlib.Omega.{arith}
use Rattle.annex10.specs.Repair.{clearing}
use Rattle.annex10.specs.Any.{clearing_up_to}
use Rattle.annex10.proofs.Unique.{apart_14}
use Rattle.annex10.proofs.UpTo.{cleared_up_to, none_asked, one_asked, one_found, two_asked, none_not_zero, up_to_zero, up_to_none, gone_high}
use Rattle.repairs.proofs.fewest.fewest.Goals as goal
use Rattle.repairs.proofs.fewest.fewest.Goals.{then-level-eq0-via-then-level-eq0, then-level-eq0-via-else-level-eq0+then-crc-ge16777216}

pub returns-then-crc-eq0 : goal.returns-then-crc-eq0
returns-then-crc-eq0 c = sym (ap (clearing_up_to 14 c.args.level) c.if-crc-eq0.true ∙ up_to_zero 14 apart_14 c.args.level)

pub returns-then-level-eq0 : goal.returns-then-level-eq0
returns-then-level-eq0 c = elim c.then-level-eq0.branch [
  | then-level-eq0-via-then-level-eq0 w ↦
      sym (cleared_up_to 14 c.args.level c.args.crc ∙ none_asked (λ n. clearing 14 n c.args.crc) c.args.level (none_not_zero 14 c.args.crc c.if-crc-eq0.false) w.if-level-eq0.true)
  | then-level-eq0-via-else-level-eq0+then-crc-ge16777216 w ↦ sym (up_to_none 14 c.args.crc c.args.level (λ n l. gone_high 14 c.args.crc w.if-crc-ge16777216.true n))
]

pub returns-in-Nothing : goal.returns-in-Nothing
returns-in-Nothing c =
    c.double_bit_error_from_crc24.ensures
    ∙ sym (cleared_up_to 14 c.args.level c.args.crc ∙ two_asked (λ n. clearing 14 n c.args.crc) c.args.level (none_not_zero 14 c.args.crc c.if-crc-eq0.false) (sym (c.in-Nothing.ensures)) c.if-level-eq2.true)

pub returns-in_default : goal.returns-in_default
returns-in_default c = let l : c.args.level ≡ 1 = omega arith in
    c.single_bit_error_from_crc24.ensures
    ∙ sym (cleared_up_to 14 c.args.level c.args.crc ∙ one_asked (λ n. clearing 14 n c.args.crc) c.args.level (none_not_zero 14 c.args.crc c.if-crc-eq0.false) l)

pub returns-in_default-2 : goal.returns-in_default-2
returns-in_default-2 c = let e = c.in_default.ensures in
    c.single_bit_error_from_crc24.ensures ∙ sym e
    ∙ sym (cleared_up_to 14 c.args.level c.args.crc ∙ one_found (λ n. clearing 14 n c.args.crc) c.args.level (none_not_zero 14 c.args.crc c.if-crc-eq0.false) (sym e) c.if-level-eq0.false)
