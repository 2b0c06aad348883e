-- `receiver::answer::time_in` meets its contract: no more than two samples move.
-- Assumes nothing.
use Rattle.receiver.specs.Inner.{kind_of, seen_in}
use Rattle.receiver.proofs.EitherKind.{right}
use Rattle.receiver.proofs.Prompting.{listed_most}
use Rattle.receiver.proofs.Deciding.{moves_few, timed_is}
use Rattle.receiver.proofs.answer.time_in.Goals as goal

pub index_of-requires : goal.index_of-requires
index_of-requires c =
    let k = kind_of c.args.kind in
    (c.requires.2, c.requires.3, listed_most k (right c.args.kind) c.args.location.place c.requires.1.place, moves_few (seen_in k c.args.symbols.now) c.args.message.now c.args.location c.subsample-t.ensures)

pub returns : goal.returns
returns c = timed_is (kind_of c.args.kind) c.args.symbols.now c.args.location c.args.message.now c.args.index c.subsample-t.ensures c.index_of.ensures
