-- `mode_s::avr::format_avr` meets its contract. The loop's invariant: the first i bytes of the output are those of the line.
-- Assumes nothing.
use Prim.Native.Nat.{◌+◌, ◌*◌}
use lib.ListN.{length}
use Rattle.lists.proofs.Table.{Done}
use Rattle.mode_s.specs.Inner.{avr_byte}
use Rattle.mode_s.proofs.avr.format_avr.Given as goal

abbrev pub invariant-loop-i : goal.invariant-loop-i
invariant-loop-i l = Done 0 (avr_byte l.message) (2 * length l.message + 2) l.out l.i
