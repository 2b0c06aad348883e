-- `receiver::kinds::check_location` meets its contract. Assumes nothing.
use Rattle.receiver.proofs.EitherKind.{kind_bytes}
use Rattle.receiver.proofs.kinds.check_location.Goals as goal

pub returns : goal.returns
returns c = rw (kind_bytes c.args.kind) c.check.ensures
