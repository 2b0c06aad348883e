-- `receiver::kinds::samples_part` meets its contract. Assumes nothing.
use Rattle.receiver.proofs.EitherKind.{kind_bytes}
use Rattle.receiver.proofs.kinds.samples_part.Goals as goal

pub returns : goal.returns
returns c = rw (kind_bytes c.args.kind) c.samples_for_location.ensures
