-- `cn0::logarithm::log_digits` meets its contract. The loop's invariant: r is in [2 ^ 31, 2 ^ 32), d has at most as many digits as there were turns,
-- and going on from them gives what was asked for.
-- Assumes nothing.
use mathlib.Core.Path.{◌∙◌}
use native.Mathlib.Omega.{arith}
use Rattle.cn0.proofs.Squarings.{under, done, again_one, again_zero}
use Rattle.cn0.proofs.logarithm.log_digits.Goals as goal
use Rattle.cn0.proofs.logarithm.log_digits.Goals.{then-t-ge9223372036854775808, else-t-ge9223372036854775808}

pub loop-preserved : goal.loop-preserved
loop-preserved c = let a = c.loop in
    elim c.if-t-ge9223372036854775808.branch [
      | then-t-ge9223372036854775808 w ↦ rw (w.r-is, w.d-is) (again_one c.args.significand a.r a.d a.counter (omega arith) a.invariant w.if-t-ge9223372036854775808.true)
      | else-t-ge9223372036854775808 w ↦ rw (w.r-is, w.d-is) (again_zero c.args.significand a.r a.d a.counter (omega arith) a.invariant w.if-t-ge9223372036854775808.false)
    ]

pub returns : goal.returns
returns c = let a = c.loop in
    (done a.d a.r a.counter a.invariant.0 (omega arith) ∙ a.invariant.4, omega (arith, under a.counter a.invariant.0))
