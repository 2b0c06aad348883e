-- Each public contract of outcomes fixes its outcome. Written by tools/outcomes; the prover trusts nothing of it.
-- Assumes nothing.
use mathlib.Core.Path.{refl}
use Rattle.outcomes.specs.Outcome.{Fixed, answer}
use Rattle.outcomes.proofs.Law.{fixes, answer-set}
use Rattle.outcomes.specs.contracts.exchange as outcomes-exchange

pub outcomes-exchange-fixed : Fixed outcomes-exchange.ended (answer _) (λ M 𝓤 𝓛. outcomes-exchange.clauses 𝓛) (λ M 𝓤 𝓛. outcomes-exchange.spec 𝓛)
outcomes-exchange-fixed =
    fixes outcomes-exchange.ended _ (answer-set outcomes-exchange.ended) refl (λ κs. refl)
    (λ κs a r e. (r, e.0.now)) (λ κs a y. (y.0, (y.1, (tt, tt)))) (λ κs a r ws. refl)
