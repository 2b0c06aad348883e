-- WHEN A CONTRACT FIXES ITS OUTCOME. An outcome of a call is what a caller sees of the answer, and the last value of every memory that
-- was lent to be written. Nothing here is about one function: contract, parameters and answer are as the prover has them.
-- Assumes nothing.
use Rattle.std.specs.Prelude.{◌≡◌}
use seplogic.Ra.Ura.{Ura}
use seplogic.Bi.Sat.{Sat}
use base.Logic.{SProp, emp}
use prog.Memory.{Memory}
use prog.Routine.{Routine}
use types.Logic.{Logic}
use contract.Monad.{Fun}
use contract.Lifetimes.{Lfts}
use denote.Exit.{yes}
use Rattle.std.specs.Borrow.{Bor}
use denote.Triple.End.{all}
use denote.Triple.Entry.{Args, Res}
use denote.Triple.Spec.{Spec}
use denote.Triple.Clauses.{Ended, Clauses, ClausesAt, Lasts, at_exit, closing}

-- a contract's clauses, and the contract that the function is proved to meet, in every model of memory
abbrev pub Clause : Ended → Type 2
Clause T = (M : Type 1) (𝓤 : Ura M) (𝓛 : Logic 𝓤) → (Memory → SProp 𝓤) → (Routine → Fun 𝓤) → Clauses 𝓤 T

abbrev pub Contract : Ended → Type 2
Contract T = (M : Type 1) (𝓤 : Ura M) (𝓛 : Logic 𝓤) → (Memory → SProp 𝓤) → (Routine → Fun 𝓤) → Spec 𝓤 T.signature

module _ (T : Ended) where
  abbrev pub Lifetimes : Type 0
  Lifetimes = Lfts T.signature.lifetimes

  abbrev pub Given : Lifetimes → Type 0
  Given κs = Args T.signature κs

  abbrev pub Answer : Lifetimes → Type 0
  Answer κs = Res T.signature κs

  -- what a caller sees of an answer
  pub record Sight : Type 1 where
    pub Seen : Lifetimes → Type 0
    pub see : (κs : Lifetimes) → Answer κs → Seen κs

  -- the whole of it; or what it holds, where it is a part of lent memory: its place in memory is no value of the language
  abbrev pub answer : Sight
  answer = record { Seen = Answer; see = λ κs r. r }

  abbrev pub part : (X : Lifetimes → Type 0) → ((κs : Lifetimes) → Answer κs → Bor (X κs)) → Sight
  part X ref = record { Seen = X; see = λ κs r. (ref κs r).now }

  abbrev pub Outcome : Sight → (κs : Lifetimes) → Given κs → Type 0
  Outcome s κs a = s.Seen κs × Lasts T κs a

  abbrev pub outcome : (s : Sight) (κs : Lifetimes) (a : Given κs) → Answer κs → Lasts T κs a → Outcome s κs a
  outcome s κs a r ws = (s.see κs r, ws)

  -- what the clauses ensure of an answer and of last values can hold
  abbrev pub Permits : {M : Type 1} (𝓤 : Ura M) (κs : Lifetimes) (a : Given κs) → ClausesAt 𝓤 T κs → Answer κs → Lasts T κs a → Type 1
  Permits 𝓤 κs a c r ws = ∥ ((g : c.ghost) × Sat 𝓤.op (c.ensures g r (at_exit T κs a ws))) ∥₁

  -- of one call: the contract asks nothing of it, and two outcomes that it permits are equal
  pub record FixedAt (s : Sight) {M : Type 1} (𝓤 : Ura M) (κs : Lifetimes) (a : Given κs) (c : ClausesAt 𝓤 T κs) : Type 2 where
    pub taken : (g : c.ghost) → c.requires g ≡ emp 𝓤
    pub same : (r r' : Answer κs) (ws ws' : Lasts T κs a) → Permits 𝓤 κs a c r ws → Permits 𝓤 κs a c r' ws'
        → outcome s κs a r ws ≡ outcome s κs a r' ws'

  -- of every call. The last value of every lent memory is part of the outcome, and the clauses are those of the contract that the
  -- function is proved to meet
  pub record Fixed (s : Sight) (c : Clause T) (contract : Contract T) : Type 2 where
    pub whole : T.kept ≡ all yes T.signature.params
    pub proved : (M : Type 1) (𝓤 : Ura M) (𝓛 : Logic 𝓤) (mem : Memory → SProp 𝓤) (run : Routine → Fun 𝓤)
        → contract M 𝓤 𝓛 mem run ≡ closing 𝓛 T (c M 𝓤 𝓛 mem run)
    pub fixed : (M : Type 1) (𝓤 : Ura M) (𝓛 : Logic 𝓤) (mem : Memory → SProp 𝓤) (run : Routine → Fun 𝓤)
        (κs : Lifetimes) (a : Given κs) → FixedAt s 𝓤 κs a (c M 𝓤 𝓛 mem run κs a)
