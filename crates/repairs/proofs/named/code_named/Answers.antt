-- `repairs::named::code_named` meets its contract. Assumes nothing.
use mathlib.Core.Path.{sym, ap, ◌∙◌}
use native.Mathlib.Omega.{arith}
use Rattle.annex10.specs.Codes.{code_of}
use Rattle.repairs.specs.Codes.{code_up_to}
use Rattle.repairs.proofs.Naming.{named_right}
use Rattle.repairs.proofs.named.code_named.Goals as goal

pub returns-then-clears : goal.returns-then-clears
returns-then-clears c = let a = c.args in
    named_right a.named a.level a.crc (omega (arith, c.repairs_of.ensures, c.if-repairs_of-level.true))
    (sym c.clears.ensures ∙ c.if-clears.true) c.code_of.ensures

pub returns : goal.returns
unfolding code_up_to
returns c = c.code_of-2.ensures ∙ ap code_of c.fewest.ensures
