-- `receiver::window::best_short` meets its contract: its memory is as long as there are places. Assumes nothing.
use Rattle.search.specs.Kinds.{short}
use Rattle.receiver.proofs.window.best_short.Goals as goal

pub best_either-requires : goal.best_either-requires
unfolding short
best_either-requires c = let p = c.requires in (p.1, rw p.0, rw p.0)
