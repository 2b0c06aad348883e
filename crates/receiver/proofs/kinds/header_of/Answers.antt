-- `receiver::kinds::header_of` meets its contract. Assumes nothing.
use Rattle.receiver.proofs.EitherKind.{kind_bytes, kind_header}
use Rattle.receiver.proofs.kinds.header_of.Goals as goal

pub returns : goal.returns
returns c = rw (kind_bytes c.args.kind, kind_header c.args.kind) c.header_is_valid.ensures
