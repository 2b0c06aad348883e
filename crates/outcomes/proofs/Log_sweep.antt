-- Each public contract of log_sweep fixes its outcome. Written by tools/outcomes; the prover trusts nothing of it.
-- Assumes nothing.
use mathlib.Core.Path.{refl}
use Rattle.outcomes.specs.Outcome.{Fixed, answer}
use Rattle.outcomes.proofs.Law.{fixes, answer-set}
use Rattle.log_sweep.specs.contracts.log_sweep_ten_log10 as log-sweep-log-sweep-ten-log10

pub log-sweep-log-sweep-ten-log10-fixed : Fixed log-sweep-log-sweep-ten-log10.ended (answer _) (λ M 𝓤 𝓛. log-sweep-log-sweep-ten-log10.clauses 𝓛) (λ M 𝓤 𝓛. log-sweep-log-sweep-ten-log10.spec 𝓛)
log-sweep-log-sweep-ten-log10-fixed =
    fixes log-sweep-log-sweep-ten-log10.ended _ (answer-set log-sweep-log-sweep-ten-log10.ended) refl (λ κs. refl)
    (λ κs a r e. r) (λ κs a y. (y, (tt, tt))) (λ κs a r ws. refl)
