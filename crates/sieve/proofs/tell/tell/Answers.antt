-- `sieve::tell::tell` meets its contract. Assumes nothing.
use Rattle.sieve.proofs.Picking.{told_done}
use Rattle.sieve.proofs.tell.tell.Goals as goal

pub returns-in-None : goal.returns-in-None
returns-in-None c = told_done c.args.kind _ _ _ _ _ c.requires.0 c.requires.1 c.bit_errors_from_crc24s.ensures
