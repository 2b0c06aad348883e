-- `repairs::single_bit_error_from_crc24` meets its contract: the test of the constant table is computed here.
-- Assumes nothing.
use Rattle.annex10.proofs.Singles.{singles, singles_from}
use Rattle.repairs.proofs.Rules.{single_rule, rising, single_right, single_has, has, single_law}
use Rattle.repairs.proofs.single_bit_error_from_crc24.Goals as goal

pub single_in-requires : goal.single_in-requires
unfolding single_rule rising single_right single_has has singles singles_from
single_in-requires c = single_law _ tt
