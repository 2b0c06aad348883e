-- `repairs::search::double_in` meets its contract: an entry with the remainder names the pair. Assumes nothing.
use Rattle.repairs.proofs.Lookup.{double_hit, double_miss}
use Rattle.repairs.proofs.search.double_in.Goals as goal

pub returns-in-Some : goal.returns-in-Some
returns-in-Some c = double_hit _ c.args.table.now c.args.second.now c.requires c.args.crc c.in-Some.i c.in-Some.ensures

pub returns-in-None : goal.returns-in-None
returns-in-None c = double_miss c.args.table.now c.args.second.now c.args.crc c.requires c.in-None.ensures
