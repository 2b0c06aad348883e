-- `program::run` meets its contract: at each turn fewer parts are left, and where nothing is wanted all is over.
-- Assumes nothing.
use mathlib.Core.Path.{◌≡◌}
use Rattle.feed.specs.declared.Stage.TheVariants.{Over}
use Rattle.feed.specs.Machine.{wanted_of, blank_of}
use Rattle.feed.specs.Statement.{left_of}
use Rattle.program.proofs.run.Given as goal

abbrev pub invariant-loop-input : goal.invariant-loop-input
invariant-loop-input l = wanted_of l.state ≡ 0 → l.state ≡ blank_of Over

abbrev pub decreases-loop-input : goal.decreases-loop-input
decreases-loop-input l = left_of l.state
