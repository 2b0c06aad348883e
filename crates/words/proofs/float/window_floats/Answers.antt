-- `words::float::window_floats` meets its contract. The loop's invariant: the first k floats of the output are those of the bytes.
-- Assumes nothing.
use native.Mathlib.Omega.{arith}
use Rattle.lists.proofs.Table.{done_more, done_all}
use Rattle.std.proofs.lemmas.Grind.{common_steps}
use Rattle.words.specs.Words.{window_floats}
use Rattle.words.proofs.Bytes.{float_is}
use Rattle.words.proofs.float.window_floats.Goals as goal

pub loop-k-preserved : goal.loop-k-preserved
loop-k-preserved c =
    done_more _ _ _ _ _ _ (omega arith) c.loop-k.invariant
    (float_is _ _ _ c.as_chunks.ensures.front (omega arith) c.word.ensures c.float_of.ensures)

pub returns : goal.returns
unfolding window_floats
returns c = let e = done_all _ _ _ _ _ (omega arith) c.loop-k.invariant in grind (arith, common_steps)
