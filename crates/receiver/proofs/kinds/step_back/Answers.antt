-- `receiver::kinds::step_back` meets its contract. Assumes nothing.
use Rattle.receiver.proofs.EitherKind.{kind_bytes}
use Rattle.receiver.proofs.kinds.step_back.Goals as goal

pub returns : goal.returns
returns c = rw (kind_bytes c.args.kind) c.earlier.ensures
