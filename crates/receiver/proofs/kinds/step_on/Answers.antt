-- `receiver::kinds::step_on` meets its contract. Assumes nothing.
use Rattle.receiver.proofs.EitherKind.{kind_bytes}
use Rattle.receiver.proofs.kinds.step_on.Goals as goal

pub returns : goal.returns
returns c = rw (kind_bytes c.args.kind) c.later.ensures
