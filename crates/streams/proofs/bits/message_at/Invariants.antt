-- `streams::bits::message_at` meets its contract. The loop: the first k bytes are stored. Assumes nothing.
use Prim.Native.Nat.{ℕ, ◌+◌, ◌*◌}
use Rattle.lists.proofs.Table.{Done}
use Rattle.lists.specs.Bits.{bit_at, value}
use Rattle.streams.proofs.bits.message_at.Given as goal

abbrev pub invariant-loop-k : goal.invariant-loop-k
invariant-loop-k g l = Done 0 (λ (i : ℕ). value (λ (j : ℕ). bit_at l.bytes (l.offset + j)) (8 * i) 8) g.row.N l.byte-items l.k
