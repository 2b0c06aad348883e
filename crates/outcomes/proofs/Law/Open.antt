-- A contract that permits two outcomes that differ, or leaves a call out, does not fix its outcome.
-- Assumes nothing.
use mathlib.Core.Path.{sym, subst}
use seplogic.Ra.Ura.{Ura}
use seplogic.Bi.Sat.{Sat}
use base.Logic.{emp}
use ghost.Model as Closed
use contract.BorrowModel.{logic₀}
use contract.Closed.{model⁺, real⁺}
use contract.Monad.{fact}
use denote.Triple.Clauses.{Ended, ClausesAt}
use Rattle.outcomes.specs.Outcome.{Clause, Contract, Lifetimes, Given, Sight, FixedAt, Fixed}
use Rattle.outcomes.specs.Open.{OpenAt, LeftOutAt, Open, LeftOut}

-- a true fact can hold, and so can what asks nothing
pub fact-sat : {M : Type 1} (𝓤 : Ura M) {φ : Type 0} → φ → Sat 𝓤.op (fact 𝓤 φ)
unfolding Sat
fact-sat 𝓤 x = ∣ (𝓤.one, ∣ (x, tt) ∣₁) ∣₁

emp-sat : {M : Type 1} (𝓤 : Ura M) → Sat 𝓤.op (emp 𝓤)
unfolding Sat
emp-sat 𝓤 = ∣ (𝓤.one, tt) ∣₁

module _ (T : Ended) (s : Sight T) where
  -- of one call, in any model
  pub open_at : {M : Type 1} (𝓤 : Ura M) (κs : Lifetimes T) (a : Given T κs) (c : ClausesAt 𝓤 T κs) → OpenAt T s 𝓤 κs a c → ¬ FixedAt T s 𝓤 κs a c
  open_at 𝓤 κs a c o f = o.differ (f.same o.r o.r' o.ws o.ws' o.permitted o.permitted')

  pub left-out-at : {M : Type 1} (𝓤 : Ura M) (κs : Lifetimes T) (a : Given T κs) (c : ClausesAt 𝓤 T κs) → LeftOutAt T 𝓤 κs c → ¬ FixedAt T s 𝓤 κs a c
  left-out-at 𝓤 κs a c l f = l.cannot (subst (Sat 𝓤.op) (sym (f.taken l.asked)) (emp-sat 𝓤))

  -- `Fixed` speaks of every model: there is one, in which the machine runs
  at-closed : {c : Clause T} {contract : Contract T} (κs : Lifetimes T) (a : Given T κs) → Fixed T s c contract
      → FixedAt T s Closed.𝓤 κs a (c _ Closed.𝓤 logic₀ model⁺.mem real⁺.run κs a)
  at-closed κs a f = f.fixed _ Closed.𝓤 logic₀ model⁺.mem real⁺.run κs a

  -- of a contract, where there is a call
  pub open-not-fixed : {c : Clause T} {contract : Contract T} (κs : Lifetimes T) → Given T κs → Open T s c → ¬ Fixed T s c contract
  open-not-fixed κs a o f = open_at _ κs a _ (o _ _ _ _ _ κs a) (at-closed κs a f)

  pub left-out-not-fixed : {such : (κs : Lifetimes T) → Given T κs → Type 0} {c : Clause T} {contract : Contract T} (κs : Lifetimes T) (a : Given T κs) → such κs a
      → LeftOut T such c → ¬ Fixed T s c contract
  left-out-not-fixed κs a is l f = left-out-at _ κs a _ (l _ _ _ _ _ κs a is) (at-closed κs a f)
