-- `receiver::subsample::symbols_at` meets its contract: the row of the place's clock phase is lent. Assumes nothing.
use Prim.Native.Nat.{◌*◌}
use lib.ListN.{take, drop}
use Rattle.receiver.specs.Inner.{kind_of}
use Rattle.receiver.proofs.EitherKind.{right}
use Rattle.receiver.proofs.Looking.{stands, symbols_lent, row_long}
use Rattle.receiver.proofs.subsample.symbols_at.Goals as goal

pub row_of-requires : goal.row_of-requires
row_of-requires c = (c.requires.0, (stands (kind_of c.args.kind) (right c.args.kind) c.args.location c.requires.1).phase)

pub returns : goal.returns
returns c =
    let a = c.args in
    let k = kind_of a.kind in
    let row = take 576 (drop (576 * a.location.place.phase) a.symbols.now) in
    symbols_lent k (right a.kind) row a.location (row_long k (right a.kind) a.symbols.now a.location.place c.requires.0 (stands k (right a.kind) a.location c.requires.1)) c.requires.1
    (rw c.row_of.ensures at c.symbols_part.ensures)
