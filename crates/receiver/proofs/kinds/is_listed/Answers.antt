-- `receiver::kinds::is_listed` meets its contract. Assumes nothing.
use Rattle.receiver.proofs.EitherKind.{kind_last}
use Rattle.receiver.proofs.kinds.is_listed.Goals as goal

pub returns : goal.returns
returns c = rw (kind_last c.args.kind) c.is_listed.ensures
