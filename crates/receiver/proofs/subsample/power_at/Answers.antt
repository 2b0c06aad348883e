-- `receiver::subsample::power_at` meets its contract: the part for the place is never refused. Assumes nothing.
use Rattle.receiver.specs.Inner.{kind_of}
use Rattle.receiver.proofs.Never.{unwrapped}
use Rattle.receiver.proofs.EitherKind.{right}
use Rattle.receiver.proofs.Looking.{power_in_law}
use Rattle.receiver.proofs.subsample.power_at.Goals as goal

pub returns : goal.returns
returns c =
    let a = c.args in
    unwrapped _ _ c.unwrap_or.ensures
    (power_in_law (kind_of a.kind) (right a.kind) a.symbols.now a.location a.message.now c.requires.0 c.requires.1 c.requires.2 c.symbols_at.ensures c.postdecode_power.ensures)
