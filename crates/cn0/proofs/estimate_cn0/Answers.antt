-- `cn0::estimate_cn0` meets its contract: `>=` with 0 is false exactly where the difference is negative or NaN.
-- Assumes nothing.
use mathlib.Core.Path.{sym, ◌∙◌}
use lib.Ieee.{of_bits}
use Rattle.cn0.proofs.Tests.{kept_is, lost_is, estimate_is}
use Rattle.cn0.proofs.estimate_cn0.Goals as goal
use Rattle.cn0.proofs.estimate_cn0.Goals.{then-difference, else-difference}

pub returns : goal.returns
unfolding of_bits
returns c = c.ten_log10.ensures
    ∙ estimate_is _ _ (elim c.if-difference.branch [
      | then-difference w ↦ w.signal-is ∙ sym (kept_is _ w.if-difference.true)
      | else-difference w ↦ w.signal-is ∙ sym (lost_is _ w.if-difference.false)
    ])
