-- `timing::fraction_of` meets its contract: the operations stand in the order of the definition.
-- Assumes nothing.
use lib.Ieee.{of_bits, neg}
use Rattle.timing.specs.Subsample.{held, fraction_of}
use Rattle.timing.proofs.fraction_of.Goals as goal

pub returns : goal.returns
unfolding fraction_of held of_bits neg
returns c = rw (c.clamp.ensures.value, c.offset_of.ensures)
