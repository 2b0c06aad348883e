-- `cn0::logarithm::log_steps` meets its contract: the place is the floor of the logarithm and 150, and L is exact as an f32.
-- Assumes nothing.
use Prim.Native.Nat.{◌+◌, ◌*◌}
use native.Mathlib.Omega.{arith}
use Rattle.cn0.proofs.Whole.{steps_fit, steps_are, steps_exact}
use Rattle.cn0.proofs.logarithm.log_steps.Goals as goal

pub overflow_sub-result : goal.overflow_sub-result
overflow_sub-result c = steps_fit (65536 * c.take_apart-place.result.place + c.log_digits.result) (omega arith)

pub returns : goal.returns
returns c = let p = c.take_apart-place in
    let d = c.log_digits in
    (steps_are _ _ _ _ p.ensures d.ensures.0 d.ensures.1, steps_exact (65536 * p.result.place + d.result) (omega arith))
