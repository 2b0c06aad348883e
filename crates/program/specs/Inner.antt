-- What private functions rest on: what a step brings nearer.
-- Assumes nothing.
use Rattle.std.specs.Prelude.{◌≡◌, ◌≢◌, ◌<◌}
use Rattle.feed.specs.declared.Stage.TheVariants.{Over}
use Rattle.feed.specs.declared.State.{State}
use Rattle.feed.specs.Machine.{wanted_of, blank_of}
use Rattle.feed.specs.Statement.{left_of}

-- from a state in which something is wanted: fewer parts are left, and where nothing is wanted any more all is over, with nothing kept
pub record Nearer (s next : State) : Type 0 where
  pub less : wanted_of s ≢ 0 → left_of next < left_of s
  pub ended : wanted_of s ≢ 0 → wanted_of next ≡ 0 → next ≡ blank_of Over
