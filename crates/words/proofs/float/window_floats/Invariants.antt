-- `words::float::window_floats` meets its contract. The loop's invariant: the first k floats of the output are those of the bytes.
-- Assumes nothing.
use lib.Ieee.{binary32, of_bits}
use Rattle.lists.proofs.Table.{Done}
use Rattle.words.specs.Words.{float_at}
use Rattle.words.proofs.float.window_floats.Given as goal

abbrev pub invariant-loop-k : goal.invariant-loop-k
invariant-loop-k l = Done (of_bits binary32 0) (float_at l.bytes) 2310 l.out l.k
