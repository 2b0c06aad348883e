-- `receiver::kinds::bit_errors` meets its contract. Assumes nothing.
use Rattle.receiver.proofs.EitherKind.{kind_bytes, kind_most}
use Rattle.receiver.proofs.kinds.bit_errors.Goals as goal

pub returns : goal.returns
returns c = rw (kind_bytes c.args.kind, kind_most c.args.kind) c.bit_errors_from_crc24s.ensures
