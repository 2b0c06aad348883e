-- `receiver::kinds::bytes_of` meets its contract. Assumes nothing.
use Rattle.receiver.proofs.EitherKind.{kind_bytes}
use Rattle.receiver.proofs.kinds.bytes_of.Goals as goal

pub returns : goal.returns
returns c = rw (kind_bytes c.args.kind) c.bytes.ensures
