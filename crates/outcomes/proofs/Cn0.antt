-- Each public contract of cn0 fixes its outcome. Written by tools/outcomes; the prover trusts nothing of it.
-- Assumes nothing.
use mathlib.Core.Path.{refl}
use Rattle.outcomes.specs.Outcome.{Fixed, answer}
use Rattle.outcomes.proofs.Law.{fixes, answer-set}
use Rattle.cn0.specs.contracts.ten_log10 as cn0-ten-log10
use Rattle.cn0.specs.contracts.estimate_cn0 as cn0-estimate-cn0

pub cn0-ten-log10-fixed : Fixed cn0-ten-log10.ended (answer _) (λ M 𝓤 𝓛. cn0-ten-log10.clauses 𝓛) (λ M 𝓤 𝓛. cn0-ten-log10.spec 𝓛)
cn0-ten-log10-fixed =
    fixes cn0-ten-log10.ended _ (answer-set cn0-ten-log10.ended) refl (λ κs. refl)
    (λ κs a r e. r) (λ κs a y. (y, (tt, tt))) (λ κs a r ws. refl)

pub cn0-estimate-cn0-fixed : Fixed cn0-estimate-cn0.ended (answer _) (λ M 𝓤 𝓛. cn0-estimate-cn0.clauses 𝓛) (λ M 𝓤 𝓛. cn0-estimate-cn0.spec 𝓛)
cn0-estimate-cn0-fixed =
    fixes cn0-estimate-cn0.ended _ (answer-set cn0-estimate-cn0.ended) refl (λ κs. refl)
    (λ κs a r e. r) (λ κs a y. (y, (tt, (tt, tt)))) (λ κs a r ws. refl)
