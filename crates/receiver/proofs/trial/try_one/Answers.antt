-- `receiver::trial::try_one` meets its contract: nothing is found, or the trial is what the header check says.
-- Assumes nothing.
use Rattle.receiver.proofs.Trying.{lookup_missed, lookup_passed, lookup_failed}
use Rattle.receiver.proofs.trial.try_one.Goals as goal

pub returns-in_default : goal.returns-in_default
returns-in_default c = lookup_missed _ _ _ _ _ _ c.args.found c.only.ensures c.in_default.is

pub returns-then-unwrap_or : goal.returns-then-unwrap_or
returns-then-unwrap_or c = lookup_passed _ _ _ _ _ _ c.args.found c.only.ensures _ c.requires c.in-At.is c.header_of.ensures c.unwrap_or.ensures c.if-unwrap_or.true

pub returns-else-unwrap_or : goal.returns-else-unwrap_or
returns-else-unwrap_or c = lookup_failed _ _ _ _ _ _ c.args.found c.only.ensures _ c.requires c.in-At.is c.header_of.ensures c.unwrap_or.ensures c.if-unwrap_or.false
