-- Each public contract of program fixes its outcome. Written by tools/outcomes; the prover trusts nothing of it.
-- Assumes nothing.
use mathlib.Core.Path.{refl}
use Rattle.outcomes.specs.Outcome.{Fixed, answer}
use Rattle.outcomes.proofs.Law.{fixes, answer-set}
use Rattle.program.specs.contracts.run as program-run

pub program-run-fixed : Fixed program-run.ended (answer _) (λ M 𝓤 𝓛. program-run.clauses 𝓛) (λ M 𝓤 𝓛. program-run.spec 𝓛)
program-run-fixed =
    fixes program-run.ended _ (answer-set program-run.ended) refl (λ κs. refl)
    (λ κs a r e. r) (λ κs a y. (y, (tt, (tt, (tt, tt))))) (λ κs a r ws. refl)
