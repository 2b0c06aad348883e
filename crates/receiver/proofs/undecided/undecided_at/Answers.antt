-- `receiver::undecided::undecided_at` meets its contract: the part for the place is never refused. Assumes nothing.
use Rattle.receiver.specs.Inner.{kind_of}
use Rattle.receiver.proofs.Never.{unwrapped}
use Rattle.receiver.proofs.EitherKind.{right}
use Rattle.receiver.proofs.Looking.{undecided_is}
use Rattle.receiver.proofs.undecided.undecided_at.Goals as goal

pub returns : goal.returns
returns c =
    let a = c.args in
    unwrapped _ _ c.unwrap_or.ensures (undecided_is (kind_of a.kind) (right a.kind) a.row.now a.location c.requires.0 c.requires.1 c.symbols_part.ensures c.count_undecided.ensures)
