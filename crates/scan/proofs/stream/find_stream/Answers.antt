-- `scan::stream::find_stream` meets its contract. The loop: the first k bytes are stored. Assumes nothing.
use Rattle.std.proofs.Common.{ℕ, List, ap, ◌∙◌, arith}
use Rattle.lists.specs.Bits.{packed}
use Rattle.lists.proofs.Table.{done_more, done_all}
use Rattle.scan.specs.Lanes.{lane_bytes}
use Rattle.scan.proofs.Packing.{lane_byte, lane_done}
use Rattle.scan.proofs.stream.find_stream.Goals as goal

pub loop-k-preserved : goal.loop-k-preserved
loop-k-preserved c = done_more _ _ _ _ _ _ (omega arith) c.loop-k.invariant (c.byte_from.ensures ∙ lane_byte _ _ _)

pub returns : goal.returns
unfolding lane_bytes packed
returns c =
    rw (lane_done c.args.bits.now c.args.lane c.args.out.now (omega arith) (omega arith) (omega arith))
    (ap (λ (out : List ℕ). (0, out)) (done_all _ _ _ _ _ (omega arith) c.loop-k.invariant))
