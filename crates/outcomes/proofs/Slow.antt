-- Each public contract of slow fixes its outcome. Written by tools/outcomes; the prover trusts nothing of it.
-- Assumes nothing.
use mathlib.Core.Path.{refl, ap}
use Rattle.outcomes.specs.Outcome.{Fixed, answer}
use Rattle.outcomes.proofs.Law.{fixes, answer-set}
use Rattle.refusals.proofs.Told.{untold, told_back}
use Rattle.refusals.specs.Refusals.{told}
use Rattle.slow.specs.contracts.repair_slowly as slow-repair-slowly
use Rattle.slow.specs.contracts.repair_slowly_short as slow-repair-slowly-short

pub slow-repair-slowly-fixed : Fixed slow-repair-slowly.ended (answer _) (λ M 𝓤 𝓛. slow-repair-slowly.clauses 𝓛) (λ M 𝓤 𝓛. slow-repair-slowly.spec 𝓛)
slow-repair-slowly-fixed =
    fixes slow-repair-slowly.ended _ (answer-set slow-repair-slowly.ended) refl (λ κs. refl)
    (λ κs a r e. told r) (λ κs a y. (untold y, (tt, (tt, tt)))) (λ κs a r ws. ap (λ x. (x, ws)) (told_back r))

pub slow-repair-slowly-short-fixed : Fixed slow-repair-slowly-short.ended (answer _) (λ M 𝓤 𝓛. slow-repair-slowly-short.clauses 𝓛) (λ M 𝓤 𝓛. slow-repair-slowly-short.spec 𝓛)
slow-repair-slowly-short-fixed =
    fixes slow-repair-slowly-short.ended _ (answer-set slow-repair-slowly-short.ended) refl (λ κs. refl)
    (λ κs a r e. told r) (λ κs a y. (untold y, (tt, (tt, tt)))) (λ κs a r ws. ap (λ x. (x, ws)) (told_back r))
