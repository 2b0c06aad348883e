-- `receiver::tray::window_at` meets its contract. Assumes nothing.
use Rattle.receiver.proofs.Traying.{window_is}
use Rattle.receiver.proofs.tray.window_at.Goals as goal

pub returns : goal.returns
returns c = let a = c.args in window_is a.samples.now a.k
