-- `repairs::search::single_in` meets its contract: an entry with the remainder is the position. Assumes nothing.
use Rattle.repairs.proofs.Lookup.{single_hit, single_miss}
use Rattle.repairs.proofs.search.single_in.Goals as goal

pub returns-in-Some : goal.returns-in-Some
returns-in-Some c = single_hit c.args.table.now c.requires c.args.crc c.in-Some.i c.in-Some.ensures

pub returns-in-None : goal.returns-in-None
returns-in-None c = single_miss c.args.table.now c.requires c.args.crc c.in-None.ensures
