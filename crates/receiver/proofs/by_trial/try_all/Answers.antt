-- `receiver::by_trial::try_all` meets its contract. The loop: the first i codes are stored. Assumes nothing.
use mathlib.Core.Path.{refl, ap, ◌∙◌}
use Prim.Native.Nat.{ℕ, min}
use native.Mathlib.Omega.{arith}
use Rattle.lists.specs.From.{tabulate}
use Rattle.lists.proofs.Table.{done_none, done_more, done_all}
use Rattle.receiver.specs.Inner.{kind_of, trial_code}
use Rattle.receiver.proofs.by_trial.try_all.Goals as goal

pub loop-i-init : goal.loop-i-init
loop-i-init c = done_none _ _ _ _ refl

pub trial_code-requires : goal.trial_code-requires
trial_code-requires c = (c.requires.0, c.requires.1, c.requires.2, omega (arith, c.requires.3, c.loop-i-test.true))

pub loop-i-preserved : goal.loop-i-preserved
loop-i-preserved c = done_more _ _ _ _ _ _ c.loop-i-test.true c.loop-i.invariant c.trial_code.ensures

pub returns : goal.returns
returns c =
    let k = kind_of c.args.kind in
    done_all _ _ _ _ _ c.loop-i-test.false c.loop-i.invariant
    ∙ ap (λ (n : ℕ). tabulate n (trial_code k (min c.args.level k.most) c.args.coherent.now c.args.noncoherent.now)) c.requires.3
