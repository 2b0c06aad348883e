-- `receiver::undecided::counted` meets its contract: the row of the place's clock phase is lent. Assumes nothing.
use mathlib.Core.Path.{ap, ◌∙◌}
use lib.ListN.{length}
use Rattle.receiver.specs.Inner.{kind_of}
use Rattle.receiver.proofs.EitherKind.{right}
use Rattle.receiver.proofs.Looking.{stands, row_long}
use Rattle.receiver.proofs.undecided.counted.Goals as goal

pub row_of-row-requires : goal.row_of-row-requires
row_of-row-requires c = (c.requires.0, (stands (kind_of c.args.kind) (right c.args.kind) c.args.read.location c.requires.1).phase)

pub undecided_at-undecided-requires : goal.undecided_at-undecided-requires
undecided_at-undecided-requires c =
    let a = c.args in
    let k = kind_of a.kind in
    (ap length c.row_of-row.ensures ∙ row_long k (right a.kind) a.symbols.now a.read.location.place c.requires.0 (stands k (right a.kind) a.read.location c.requires.1), c.requires.1)

pub returns : goal.returns
returns c = rw (c.undecided_at-undecided.ensures, c.row_of-row.ensures)
