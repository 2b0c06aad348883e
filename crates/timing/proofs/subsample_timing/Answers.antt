-- `timing::subsample_timing` meets its contract: whatever the parabola gave, the fraction is in range.
-- Assumes nothing.
use mathlib.Core.Path.{ap, ◌∙◌}
use Rattle.timing.specs.Subsample.{timing_of}
use Rattle.timing.proofs.Reach.{fraction_reaches}
use Rattle.timing.proofs.Reading.{range_is}
use Rattle.timing.proofs.subsample_timing.Goals as goal

pub rested-requires : goal.rested-requires
rested-requires c = rw c.fraction_of.ensures (range_is _ (fraction_reaches _ _))

pub returns : goal.returns
returns c = c.rested.ensures ∙ ap timing_of c.fraction_of.ensures
