-- `receiver::decode::find_best_decode_candidate` meets its contract. Assumes nothing.
use mathlib.Core.Path.{refl}
use Rattle.search.specs.Kinds.{long}
use Rattle.search.specs.Choice.{best}
use Rattle.search.specs.Seen.{seen}
use Rattle.receiver.proofs.Deciding.{best_taken, best_done}
use Rattle.receiver.proofs.Widening.{held_long}
use Rattle.receiver.proofs.decode.find_best_decode_candidate.Goals as goal

pub best_of-requires : goal.best_of-requires
best_of-requires c =
    let a = c.args in
    let t = best_taken long a.samples.now a.s c.in_ok-check_best.ensures in
    (t.whole, t.settings, refl)

pub returns : goal.returns
returns c =
    let a = c.args in
    best_done long a.samples.now a.s c.in_ok-check_best.ensures (held_long (best long a.s (seen long a.samples.now)) c.best_of.ensures.0)
