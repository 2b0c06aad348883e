-- Each public contract of timing fixes its outcome. Written by tools/outcomes; the prover trusts nothing of it.
-- Assumes nothing.
use mathlib.Core.Path.{refl}
use Rattle.outcomes.specs.Outcome.{Fixed, answer}
use Rattle.outcomes.proofs.Law.{fixes, answer-set}
use Rattle.timing.specs.contracts.subsample_timing as timing-subsample-timing

pub timing-subsample-timing-fixed : Fixed timing-subsample-timing.ended (answer _) (λ M 𝓤 𝓛. timing-subsample-timing.clauses 𝓛) (λ M 𝓤 𝓛. timing-subsample-timing.spec 𝓛)
timing-subsample-timing-fixed =
    fixes timing-subsample-timing.ended _ (answer-set timing-subsample-timing.ended) refl (λ κs. refl)
    (λ κs a r e. r) (λ κs a y. (y, (tt, (tt, tt)))) (λ κs a r ws. refl)
