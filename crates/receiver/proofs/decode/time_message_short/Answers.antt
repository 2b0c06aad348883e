-- `receiver::decode::time_message_short` meets its contract. Assumes nothing.
use Rattle.search.specs.Kinds.{short}
use borrow.Author.Rules.{rules}
use Rattle.receiver.proofs.decode.time_message_short.Goals as goal

pub time_at-requires : goal.time_at-requires
unfolding short
time_at-requires c = search rules
