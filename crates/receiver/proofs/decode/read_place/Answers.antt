-- `receiver::decode::read_place` meets its contract. Assumes nothing.
use Rattle.search.specs.Kinds.{long}
use Rattle.search.specs.Choice.{candidate_at}
use Rattle.search.specs.Seen.{seen}
use Rattle.receiver.proofs.Deciding.{read_taken, read_done}
use Rattle.receiver.proofs.Widening.{held_long}
use Rattle.receiver.proofs.decode.read_place.Goals as goal

pub reading_at-requires : goal.reading_at-requires
reading_at-requires c =
    let a = c.args in
    let t = read_taken long a.samples.now a.s a.place c.in_ok-check_read.ensures in
    (t.0.whole, t.1, t.0.settings)

pub returns : goal.returns
returns c =
    let a = c.args in
    read_done long a.samples.now a.s a.place c.in_ok-check_read.ensures (held_long (candidate_at long a.s (seen long a.samples.now) a.place) c.reading_at.ensures)
