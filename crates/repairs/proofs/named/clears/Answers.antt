-- `repairs::named::clears` meets its contract: two patterns together are that of both. Assumes nothing.
use Rattle.repairs.proofs.Naming.{cleared_two}
use Rattle.repairs.proofs.named.clears.Goals as goal

pub returns-then-k-lt112 : goal.returns-then-k-lt112
returns-then-k-lt112 c =
    let h = c.if-k-lt112.true in
    rw c.in-Two.is (cleared_two _ _ _ h.0 h.1 c.pattern_of-then-k-lt112.ensures c.pattern_of-then-k-lt112-2.ensures)
