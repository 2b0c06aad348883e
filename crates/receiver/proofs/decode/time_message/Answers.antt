-- `receiver::decode::time_message` meets its contract. Assumes nothing.
use Rattle.search.specs.Kinds.{long}
use borrow.Author.Rules.{rules}
use Rattle.receiver.proofs.decode.time_message.Goals as goal

pub time_at-requires : goal.time_at-requires
unfolding long
time_at-requires c = search rules
