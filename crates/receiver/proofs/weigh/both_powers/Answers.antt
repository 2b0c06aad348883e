-- `receiver::weigh::both_powers` meets its contract: the parts for the place are never refused.
-- Assumes nothing.
use Rattle.receiver.specs.Inner.{kind_of}
use Rattle.receiver.proofs.Never.{unwrapped}
use Rattle.receiver.proofs.EitherKind.{right}
use Rattle.receiver.proofs.Looking.{both_is}
use Rattle.receiver.proofs.weigh.both_powers.Goals as goal

pub returns : goal.returns
returns c =
    let a = c.args in
    unwrapped _ _ c.unwrap_or.ensures
    (both_is (kind_of a.kind) (right a.kind) a.samples.now a.row.now a.location a.message.now c.requires.0 c.requires.1 c.requires.2 c.requires.3
    c.symbols_part-symbols.ensures c.samples_part-beside.ensures c.postdecode_powers.ensures)
