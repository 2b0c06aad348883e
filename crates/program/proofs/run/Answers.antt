-- `program::run` meets its contract: at each turn fewer parts are left, and where nothing is wanted all is over.
-- Assumes nothing.
use native.Mathlib.Omega.{arith}
use mathlib.Core.Path.{sym, ap, ◌∙◌}
use Rattle.feed.specs.Machine.{wanted_of, start_of}
use Rattle.program.proofs.run.Goals as goal

pub loop-input-init : goal.loop-input-init
unfolding start_of wanted_of
loop-input-init c = λ e. absurd (omega (arith, sym (ap wanted_of c.start-state.ensures) ∙ e))

pub loop-input-smaller : goal.loop-input-smaller
loop-input-smaller c =
    c.step-step.ensures.less
    (λ e. omega (arith, c.wanted.ensures, c.loop-input-test.true))

pub loop-input-preserved : goal.loop-input-preserved
loop-input-preserved c =
    c.step-step.ensures.ended
    (λ e. omega (arith, c.wanted.ensures, c.loop-input-test.true))

pub returns : goal.returns
returns c = c.loop-input.invariant (omega (arith, c.wanted.ensures, c.loop-input-test.false))
