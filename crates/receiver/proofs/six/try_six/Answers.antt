-- `receiver::six::try_six` meets its contract: six trials one after the other, and the first that passes.
-- Assumes nothing.
use mathlib.Core.Path.{◌∙◌}
use borrow.Author.Tests.{le-leb, lt-leb}
use Rattle.receiver.proofs.Turns.{in_turn_law}
use Rattle.receiver.proofs.six.try_six.Goals as goal
use Rattle.receiver.proofs.six.try_six.Goals.{then-three, else-three, then-five, else-five}

pub returns : goal.returns
returns c =
    in_turn_law _ _ _ _ _ _ _ _
    (elim c.if-three.branch [ then-three w ↦ w.four-is ∙ rw (le-leb _ _ w.if-three.true) | else-three w ↦ w.four-is ∙ rw (lt-leb _ _ w.if-three.false) ])
    (elim c.if-five.branch [ then-five w ↦ w.six-is ∙ rw (le-leb _ _ w.if-five.true) | else-five w ↦ w.six-is ∙ rw (lt-leb _ _ w.if-five.false) ])
    c.then_try-t.ensures
    c.then_try-t-2.ensures
    c.then_try-t-3.ensures
    c.then_try-t-4.ensures
    c.then_try-t-5.ensures
    c.then_try.ensures
