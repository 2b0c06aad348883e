-- `timing::rested` meets its contract: what the index has gained or lost from 4 on is the moves.
-- Assumes nothing.
use Rattle.timing.proofs.Reading.{timing_back, timing_on}
use Rattle.timing.proofs.rested.Goals as goal

pub returns-then-index-lt4 : goal.returns-then-index-lt4
returns-then-index-lt4 c = timing_back _ c.settle_from-index.ensures.0 c.settle_from-index.ensures.1 c.if-index-lt4.true

pub returns-else-index-lt4 : goal.returns-else-index-lt4
returns-else-index-lt4 c = timing_on _ c.settle_from-index.ensures.0 c.settle_from-index.ensures.1 c.if-index-lt4.false
