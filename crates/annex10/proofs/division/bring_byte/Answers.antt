-- `annex10::division::bring_byte` meets its contract. Assumes nothing.
use Rattle.annex10.proofs.Shifts.{byte_lt, brought}
use Rattle.annex10.proofs.division.bring_byte.Goals as goal

pub byte_crc24-requires : goal.byte_crc24-requires
byte_crc24-requires c = byte_lt c.args.crc c.args.byte c.ranges.byte.fits

pub returns : goal.returns
returns c = brought _ _ _ c.byte_crc24.ensures
