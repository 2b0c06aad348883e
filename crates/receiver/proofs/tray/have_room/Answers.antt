-- `receiver::tray::have_room` meets its contract. Assumes nothing.
use Rattle.receiver.proofs.Traying.{sizes_long, sizes_both, room_is}
use Rattle.receiver.proofs.tray.have_room.Goals as goal

pub returns-then-both : goal.returns-then-both
returns-then-both c = let a = c.args in room_is a.both a.n _ _ _ (sizes_both c.if-both.true) c.have_lengths.ensures

pub returns-else-both : goal.returns-else-both
returns-else-both c = let a = c.args in room_is a.both a.n _ _ _ (sizes_long c.if-both.false) c.have_lengths-else-both.ensures
