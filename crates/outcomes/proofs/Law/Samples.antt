-- The contracts of the samples beside `exchange`: those that leave something open are not fixed, the one in other words is.
-- Assumes nothing.
use mathlib.Core.Path.{◌≡◌, refl, sym, ap, ap₂}
use mathlib.Core.Logic.{∥∥₁_prop, ∥∥₁_elim, ∥∥₁_map, ◌≢◌}
use mathlib.Core.List.{[]}
use mathlib.Core.HLevel.{Σ_set, prop→set, ⊥_prop}
use native.Mathlib.Nat.{ℕ_set}
use native.Mathlib.Omega.{arith}
use seplogic.Ra.Ura.{Ura}
use seplogic.Bi.Sat
use seplogic.Bi.Sat.{Sat}
use base.Logic.{sep, fst∗, snd∗}
use contract.Monad.{fact}
use Rattle.outcomes.specs.Outcome.{Given, Fixed, answer}
use Rattle.outcomes.specs.Open.{Open, LeftOut}
use Rattle.outcomes.proofs.Law.{sat_fact, permits-one}
use Rattle.outcomes.proofs.Law.Open.{fact-sat, open-not-fixed, left-out-not-fixed}
use Rattle.outcomes.specs.contracts.samples.memory_open as memory-open
use Rattle.outcomes.specs.contracts.samples.answer_open as answer-open
use Rattle.outcomes.specs.contracts.samples.calls_left_out as calls-left-out
use Rattle.outcomes.specs.contracts.samples.reworded as reworded

-- a call: a byte that holds 0 is lent, and 0 is given
abbrev call : Given memory-open.ended ([], tt)
call = (record { ref_ptr = (0, 0); ghost_name = 0; now = 0 }, (0, tt))

-- the byte that was held is answered, and 0 or 1 is left
pub memory-is-open : Open memory-open.ended (answer _) (λ M 𝓤 𝓛. memory-open.clauses 𝓛)
memory-is-open M 𝓤 𝓛 mem run κs a = record {
  r = a.0.now;
  r' = a.0.now;
  ws = (0, (tt, tt));
  ws' = (1, (tt, tt));
  permitted = ∣ (tt, fact-sat 𝓤 refl) ∣₁;
  permitted' = ∣ (tt, fact-sat 𝓤 refl) ∣₁;
  differ = λ e. omega (arith, ap (λ o. o.1.0) e);
}

pub memory-not-fixed : ¬ Fixed memory-open.ended (answer _) (λ M 𝓤 𝓛. memory-open.clauses 𝓛) (λ M 𝓤 𝓛. memory-open.spec 𝓛)
memory-not-fixed = open-not-fixed memory-open.ended _ ([], tt) call memory-is-open

-- 0 or 1 is answered, and the new byte is left
pub answer-is-open : Open answer-open.ended (answer _) (λ M 𝓤 𝓛. answer-open.clauses 𝓛)
answer-is-open M 𝓤 𝓛 mem run κs a = record {
  r = 0;
  r' = 1;
  ws = (a.1.0, (tt, tt));
  ws' = (a.1.0, (tt, tt));
  permitted = ∣ (tt, fact-sat 𝓤 refl) ∣₁;
  permitted' = ∣ (tt, fact-sat 𝓤 refl) ∣₁;
  differ = λ e. omega (arith, ap (λ o. o.0) e);
}

pub answer-not-fixed : ¬ Fixed answer-open.ended (answer _) (λ M 𝓤 𝓛. answer-open.clauses 𝓛) (λ M 𝓤 𝓛. answer-open.spec 𝓛)
answer-not-fixed = open-not-fixed answer-open.ended _ ([], tt) call answer-is-open

-- every call that gives another byte than 1 is left out
pub calls-are-left-out : LeftOut calls-left-out.ended (λ κs a. a.1.0 ≢ 1) (λ M 𝓤 𝓛. calls-left-out.clauses 𝓛)
calls-are-left-out M 𝓤 𝓛 mem run κs a other = record { asked = tt; cannot = λ s. ∥∥₁_elim (sat_fact 𝓤 _ s) ⊥_prop other }

pub calls-not-fixed : ¬ Fixed calls-left-out.ended (answer _) (λ M 𝓤 𝓛. calls-left-out.clauses 𝓛) (λ M 𝓤 𝓛. calls-left-out.spec 𝓛)
calls-not-fixed = left-out-not-fixed calls-left-out.ended _ ([], tt) call (λ e. omega (arith, e)) calls-are-left-out

-- two facts that hold together are both true
sat-both : {M : Type 1} (𝓤 : Ura M) (φ ψ : Type 0) → Sat 𝓤.op (sep 𝓤 (fact 𝓤 φ) (fact 𝓤 ψ)) → ∥ φ × ψ ∥₁
sat-both 𝓤 φ ψ s =
    ∥∥₁_elim (sat_fact 𝓤 φ (Sat.mono 𝓤.op (fst∗ 𝓤 (fact 𝓤 φ) (fact 𝓤 ψ)) s)) ∥∥₁_prop (λ x.
    ∥∥₁_map (sat_fact 𝓤 ψ (Sat.mono 𝓤.op (snd∗ 𝓤 (fact 𝓤 φ) (fact 𝓤 ψ)) s)) (λ y. (x, y)))

-- an equation for the memory and another for the answer fix both
pub reworded-fixed : Fixed reworded.ended (answer _) (λ M 𝓤 𝓛. reworded.clauses 𝓛) (λ M 𝓤 𝓛. reworded.spec 𝓛)
reworded-fixed = record {
  whole = refl;
  proved = λ M 𝓤 𝓛 mem run. refl;
  fixed = λ M 𝓤 𝓛 mem run κs a. permits-one reworded.ended _ 𝓤 κs a _ (a.0.now, (a.1.0, (tt, tt)))
      (λ r. Σ_set ℕ_set (λ x. Σ_set ℕ_set (λ w. prop→set (λ u v. refl)))) (λ g. refl) (λ r ws p.
      ∥∥₁_elim p ∥∥₁_prop (λ t. ∥∥₁_map (sat-both 𝓤 _ _ t.1) (λ e.
      let answered : r ≡ a.0.now = sym e.1 in
      let left : ws.0 ≡ a.1.0 = sym e.0 in
      ap₂ (λ r w. (r, (w, (tt, tt)))) answered left)));
}
