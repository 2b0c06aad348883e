-- WHEN TWO FUNCTIONS ANSWER ALIKE: of every call, whatever the one contract permits and whatever the other permits is one outcome.
-- Assumes nothing.
use Rattle.std.specs.Prelude.{◌≡◌}
use seplogic.Ra.Ura.{Ura}
use base.Logic.{SProp}
use prog.Memory.{Memory}
use prog.Routine.{Routine}
use types.Logic.{Logic}
use contract.Monad.{Fun}
use denote.Triple.Clauses.{Ended, Lasts}
use Rattle.outcomes.specs.Outcome.{Clause, Lifetimes, Given, Answer, Sight, outcome, Permits}

pub record Alike (T : Ended) (s : Sight T) (c d : Clause T) : Type 2 where
  pub same : (M : Type 1) (𝓤 : Ura M) (𝓛 : Logic 𝓤) (mem : Memory → SProp 𝓤) (run : Routine → Fun 𝓤)
      (κs : Lifetimes T) (a : Given T κs) (r r' : Answer T κs) (ws ws' : Lasts T κs a)
      → Permits T 𝓤 κs a (c M 𝓤 𝓛 mem run κs a) r ws → Permits T 𝓤 κs a (d M 𝓤 𝓛 mem run κs a) r' ws'
      → outcome T s κs a r ws ≡ outcome T s κs a r' ws'
