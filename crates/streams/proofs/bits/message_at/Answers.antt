-- `streams::bits::message_at` meets its contract. The loop: the first k bytes are stored. Assumes nothing.
use mathlib.Core.Path.{sym, ◌∙◌}
use native.Mathlib.Omega.{arith}
use lib.ListN.{length-replicate}
use Rattle.lists.proofs.Table.{done_none, done_more, done_all}
use Rattle.lists.specs.Bits.{packed}
use Rattle.lists.proofs.Bits.{value_later}
use Rattle.streams.specs.Streams.{message_at}
use Rattle.streams.proofs.bits.message_at.Goals as goal

pub loop-k-init : goal.loop-k-init
loop-k-init g c = done_none _ _ _ _ (length-replicate _ _)

pub loop-k-preserved : goal.loop-k-preserved
loop-k-preserved g c = done_more _ _ _ _ _ _ (omega arith) c.loop-k.invariant (c.byte_at.ensures ∙ sym (value_later _ _ _ 8))

pub returns : goal.returns
unfolding message_at packed
returns g c = done_all _ _ _ _ _ c.loop-k-test.false c.loop-k.invariant
