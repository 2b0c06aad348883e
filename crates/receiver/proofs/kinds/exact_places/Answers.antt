-- `receiver::kinds::exact_places` meets its contract. Assumes nothing.
use Rattle.receiver.proofs.EitherKind.{kind_last}
use Rattle.receiver.proofs.kinds.exact_places.Goals as goal

pub returns : goal.returns
returns c = rw (kind_last c.args.scan.now.kind) c.list_exact.ensures
