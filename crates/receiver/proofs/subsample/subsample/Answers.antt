-- `receiver::subsample::subsample` meets its contract. Assumes nothing.
use mathlib.Core.Path.{◌∙◌}
use Rattle.receiver.specs.Inner.{kind_of}
use Rattle.receiver.proofs.EitherKind.{right}
use Rattle.receiver.proofs.Prompting.{timed_by_law}
use Rattle.receiver.proofs.subsample.subsample.Goals as goal

pub returns : goal.returns
returns c =
    c.time_by.ensures
    ∙ rw c.around.ensures (timed_by_law (kind_of c.args.kind) (right c.args.kind) c.args.symbols.now c.args.message.now c.args.location c.requires.1.place c.requires.3)
