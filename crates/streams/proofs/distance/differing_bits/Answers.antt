-- `streams::distance::differing_bits` meets its contract. The loop: the distance is that of the first k bytes. Assumes nothing.
use mathlib.Core.Path.{◌≡◌}
use Prim.Native.Nat.{◌*◌}
use native.Mathlib.Omega.{arith}
use Rattle.streams.specs.Streams.{message_at}
use Rattle.streams.specs.Distances.{differing}
use Rattle.streams.proofs.Comparing.{byte_le, byte_more, differing_le}
use borrow.Author.Rules.{rules}
use Rattle.streams.proofs.distance.differing_bits.Goals as goal

pub loop-k-init : goal.loop-k-init
unfolding differing
loop-k-init c = search rules

pub overflow_add-distance : goal.overflow_add-distance
overflow_add-distance c =
    let args = c.args in
    omega (
      arith,
      byte_le _ _ _ _ c.byte_at.ensures c.byte_at-in-loop-k.ensures,
      differing_le (message_at args.a.now args.n args.offset) (message_at args.b.now args.n args.offset) (8 * c.loop-k.k),
    )

pub loop-k-preserved : goal.loop-k-preserved
loop-k-preserved c = (search rules, byte_more _ _ _ _ _ c.loop-k-test.true c.byte_at.ensures c.byte_at-in-loop-k.ensures c.loop-k.invariant.1)

pub returns : goal.returns
returns c =
    let e : c.loop-k.k ≡ c.args.n = omega arith in
    rw e at c.loop-k.invariant.1
