-- `timing::offset_of` meets its contract: each variant gives its own float.
-- Assumes nothing.
use lib.Ieee.{of_bits, neg}
use Rattle.timing.proofs.offset_of.Goals as goal

pub returns-in-Earlier : goal.returns-in-Earlier
unfolding of_bits neg
returns-in-Earlier c = rw c.in-Earlier.is

pub returns-in-Same : goal.returns-in-Same
unfolding of_bits neg
returns-in-Same c = rw c.in-Same.is

pub returns-in-Later : goal.returns-in-Later
unfolding of_bits neg
returns-in-Later c = rw c.in-Later.is
