-- `annex10::division::byte_crc24` meets its contract. Assumes nothing.
use Rattle.annex10.proofs.Shifts.{row_le, shifts_are}
use Rattle.annex10.proofs.division.byte_crc24.Goals as goal

pub overflow_sub-result : goal.overflow_sub-result
overflow_sub-result c = row_le c.args.b

pub returns : goal.returns
returns c = shifts_are c.args.b c.requires
