-- `receiver::by_trial::trial_code` meets its contract: a place has two codes. Assumes nothing.
use mathlib.Core.Path.{◌∙◌}
use native.Mathlib.Omega.{arith}
use borrow.Author.Tests.{ne_eqb}
use Rattle.place.proofs.All.{listed_at}
use Rattle.receiver.specs.Inner.{kind_of, trial_code}
use Rattle.receiver.proofs.by_trial.trial_code.Goals as goal

pub code_at-requires : goal.code_at-requires
code_at-requires c = (c.requires.0, rw c.place_at-place.ensures (listed_at (kind_of c.args.kind).last _ (omega (arith, c.requires.3))), c.requires.2)

pub returns-then-i-eq0 : goal.returns-then-i-eq0
unfolding trial_code
returns-then-i-eq0 c = c.code_at.ensures ∙ rw (c.place_at-place.ensures, c.if-i-eq0.true)

pub code_at-requires-else-i-eq0 : goal.code_at-requires-else-i-eq0
code_at-requires-else-i-eq0 c = (c.requires.1, rw c.place_at-place.ensures (listed_at (kind_of c.args.kind).last _ (omega (arith, c.requires.3))), c.requires.2)

pub returns-else-i-eq0 : goal.returns-else-i-eq0
unfolding trial_code
returns-else-i-eq0 c = c.code_at-else-i-eq0.ensures ∙ rw (c.place_at-place.ensures, ne_eqb _ 0 c.if-i-eq0.false)
