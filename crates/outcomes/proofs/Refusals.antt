-- Each public contract of refusals fixes its outcome. Written by tools/outcomes; the prover trusts nothing of it.
-- Assumes nothing.
use mathlib.Core.Path.{refl}
use Rattle.outcomes.specs.Outcome.{Fixed, answer}
use Rattle.outcomes.proofs.Law.{fixes, answer-set}
use Rattle.refusals.specs.contracts.Refusal.number as Refusal-number
use Rattle.refusals.specs.contracts.number_of as refusals-number-of

pub Refusal-number-fixed : Fixed Refusal-number.ended (answer _) (λ M 𝓤 𝓛. Refusal-number.clauses 𝓛) (λ M 𝓤 𝓛. Refusal-number.spec 𝓛)
Refusal-number-fixed =
    fixes Refusal-number.ended _ (answer-set Refusal-number.ended) refl (λ κs. refl)
    (λ κs a r e. r) (λ κs a y. (y, (tt, tt))) (λ κs a r ws. refl)

pub refusals-number-of-fixed : Fixed refusals-number-of.ended (answer _) (λ M 𝓤 𝓛. refusals-number-of.clauses 𝓛) (λ M 𝓤 𝓛. refusals-number-of.spec 𝓛)
refusals-number-of-fixed =
    fixes refusals-number-of.ended _ (answer-set refusals-number-of.ended) refl (λ κs. refl)
    (λ κs a r e. r) (λ κs a y. (y, (tt, tt))) (λ κs a r ws. refl)
