-- `repairs::named::pattern_of` meets its contract. The loop: so many zero bytes are behind the first. Assumes nothing.
use mathlib.Core.Path.{◌≡◌}
use Prim.Native.Nat.{◌-◌, ◌*◌, ◌/◌, ◌%◌, ◌^◌, ◌≤◌}
use Rattle.annex10.specs.Bytes.{bring_byte}
use Rattle.repairs.proofs.Naming.{raised}
use Rattle.repairs.proofs.named.pattern_of.Given as goal

abbrev pub invariant-loop : goal.invariant-loop
invariant-loop l = (l.counter ≤ 13 - l.position / 8) × (l.crc ≡ raised l.counter (bring_byte 0 (1 * 2 ^ (7 - l.position % 8) % 2 ^ 8)))
