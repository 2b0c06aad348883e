-- `cn0::logarithm::log_digits` meets its contract. The loop's invariant: r is in [2 ^ 31, 2 ^ 32), d has at most as many digits as there were turns,
-- and going on from them gives what was asked for.
-- Assumes nothing.
use Rattle.cn0.proofs.Squarings.{Held}
use Rattle.cn0.proofs.logarithm.log_digits.Given as goal

abbrev pub invariant-loop : goal.invariant-loop
invariant-loop l = Held l.significand l.r l.d l.counter
