-- `receiver::window::best_long` meets its contract: its memory is as long as there are places. Assumes nothing.
use Rattle.search.specs.Kinds.{long}
use Rattle.receiver.proofs.window.best_long.Goals as goal

pub best_either-requires : goal.best_either-requires
unfolding long
best_either-requires c = let p = c.requires in (p.1, rw p.0, rw p.0)
