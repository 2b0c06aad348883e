-- WHEN A CONTRACT DOES NOT FIX ITS OUTCOME: it permits two outcomes of a call that differ, or it leaves the call out.
-- Assumes nothing.
use Rattle.std.specs.Prelude.{◌≡◌}
use seplogic.Ra.Ura.{Ura}
use seplogic.Bi.Sat.{Sat}
use base.Logic.{SProp}
use prog.Memory.{Memory}
use prog.Routine.{Routine}
use types.Logic.{Logic}
use contract.Monad.{Fun}
use denote.Triple.Clauses.{Ended, ClausesAt, Lasts}
use Rattle.outcomes.specs.Outcome.{Clause, Lifetimes, Given, Answer, Sight, outcome, Permits}

module _ (T : Ended) where
  -- of one call: two answers with their last values, both permitted, and a caller sees a difference
  pub record OpenAt (s : Sight T) {M : Type 1} (𝓤 : Ura M) (κs : Lifetimes T) (a : Given T κs) (c : ClausesAt 𝓤 T κs) : Type 1 where
    pub r : Answer T κs
    pub r' : Answer T κs
    pub ws : Lasts T κs a
    pub ws' : Lasts T κs a
    pub permitted : Permits T 𝓤 κs a c r ws
    pub permitted' : Permits T 𝓤 κs a c r' ws'
    pub differ : ¬ (outcome T s κs a r ws ≡ outcome T s κs a r' ws')

  -- of one call: what the contract asks of it cannot hold
  pub record LeftOutAt {M : Type 1} (𝓤 : Ura M) (κs : Lifetimes T) (c : ClausesAt 𝓤 T κs) : Type 1 where
    pub asked : c.ghost
    pub cannot : ¬ Sat 𝓤.op (c.requires asked)

  -- of every call, and of every call that is such; in every model of memory
  abbrev pub Open : Sight T → Clause T → Type 2
  Open s c = (M : Type 1) (𝓤 : Ura M) (𝓛 : Logic 𝓤) (mem : Memory → SProp 𝓤) (run : Routine → Fun 𝓤)
      (κs : Lifetimes T) (a : Given T κs) → OpenAt s 𝓤 κs a (c M 𝓤 𝓛 mem run κs a)

  abbrev pub LeftOut : ((κs : Lifetimes T) → Given T κs → Type 0) → Clause T → Type 2
  LeftOut such c = (M : Type 1) (𝓤 : Ura M) (𝓛 : Logic 𝓤) (mem : Memory → SProp 𝓤) (run : Routine → Fun 𝓤)
      (κs : Lifetimes T) (a : Given T κs) → such κs a → LeftOutAt 𝓤 κs (c M 𝓤 𝓛 mem run κs a)
