-- `cn0::ten_log10` meets its contract: the tests part the floats as the definition's cases do.
-- Assumes nothing.
use mathlib.Core.Path.{sym, ap, ◌∙◌}
use lib.IntN.{ℤ}
use mir.Syntax.{w32}
use mir.ValLaws.{to_z-of_z}
use lib.Ieee.{binary32, of_bits, div, neg, mul, of_int}
use borrow.Author.Rules.{rules}
use Rattle.cn0.proofs.Tests.{at_log, log_is, at_inf, at_zero, at_rest}
use Rattle.cn0.specs.Logarithm.{scale}
use Rattle.cn0.proofs.ten_log10.Goals as goal

pub log_steps-requires : goal.log_steps-requires
unfolding of_bits div
log_steps-requires c = at_log c.args.x c.if-x.true c.if-x-2.false

pub returns-then-x-2 : goal.returns-then-x-2
unfolding of_bits div
returns-then-x-2 c = at_inf c.args.x c.if-x-2.true

pub returns-else-x-2 : goal.returns-else-x-2
unfolding of_bits div
returns-else-x-2 c = let x = c.args.x in
    let l = c.log_steps in
    ap (λ (z : ℤ). mul binary32 (of_int binary32 z) scale) (to_z-of_z w32 l.result (search rules) ∙ l.ensures.0)
    ∙ sym (log_is x (at_log x c.if-x.true c.if-x-2.false))

pub returns-then-x-3 : goal.returns-then-x-3
unfolding of_bits div neg
returns-then-x-3 c = at_zero c.args.x c.if-x-3.true

pub returns-else-x-3 : goal.returns-else-x-3
unfolding of_bits div
returns-else-x-3 c = at_rest c.args.x c.if-x.false c.if-x-3.false
