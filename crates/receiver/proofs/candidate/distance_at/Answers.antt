-- `receiver::candidate::distance_at` meets its contract: the call is never refused.
-- Assumes nothing.
use mathlib.Core.Path.{◌∙◌}
use Rattle.streams.proofs.Comparing.{distance_done}
use Rattle.search.specs.Kinds.{long}
use Rattle.receiver.proofs.Never.{unwrapped}
use Rattle.receiver.proofs.candidate.distance_at.Goals as goal

pub returns : goal.returns
unfolding long
returns c =
    let r = c.requires in
    unwrapped _ _ c.unwrap_or.ensures (c.compute_hamming_distance.ensures ∙ distance_done c.args.coherent.now c.args.noncoherent.now c.args.bit r.first.size r.second.size r.first.low)
