-- Each public contract of kernels fixes its outcome. Written by tools/outcomes; the prover trusts nothing of it.
-- Assumes nothing.
use mathlib.Core.Path.{refl, ap}
use Rattle.outcomes.specs.Outcome.{Fixed, answer}
use Rattle.outcomes.proofs.Law.{fixes, answer-set}
use Rattle.refusals.proofs.Told.{unnumbered, number_back}
use Rattle.refusals.specs.Refusals.{told_number}
use Rattle.kernels.specs.contracts.symbols.running_sums as symbols-running-sums
use Rattle.kernels.specs.contracts.symbols.symbols_of_sums as symbols-symbols-of-sums
use Rattle.kernels.specs.contracts.symbols.accumulate_symbols as symbols-accumulate-symbols

pub symbols-running-sums-fixed : Fixed symbols-running-sums.ended (answer _) (λ M 𝓤 𝓛. symbols-running-sums.clauses 𝓛) (λ M 𝓤 𝓛. symbols-running-sums.spec 𝓛)
symbols-running-sums-fixed =
    fixes symbols-running-sums.ended _ (answer-set symbols-running-sums.ended) refl (λ κs. refl)
    (λ κs a r e. (told_number r, e.1.0.now)) (λ κs a y. (unnumbered y.0, (tt, (y.1, tt)))) (λ κs a r ws. ap (λ x. (x, ws)) (number_back r))

pub symbols-symbols-of-sums-fixed : Fixed symbols-symbols-of-sums.ended (answer _) (λ M 𝓤 𝓛. symbols-symbols-of-sums.clauses 𝓛) (λ M 𝓤 𝓛. symbols-symbols-of-sums.spec 𝓛)
symbols-symbols-of-sums-fixed =
    fixes symbols-symbols-of-sums.ended _ (answer-set symbols-symbols-of-sums.ended) refl (λ κs. refl)
    (λ κs a r e. (told_number r, e.1.0.now)) (λ κs a y. (unnumbered y.0, (tt, (y.1, tt)))) (λ κs a r ws. ap (λ x. (x, ws)) (number_back r))

pub symbols-accumulate-symbols-fixed : Fixed symbols-accumulate-symbols.ended (answer _) (λ M 𝓤 𝓛. symbols-accumulate-symbols.clauses 𝓛) (λ M 𝓤 𝓛. symbols-accumulate-symbols.spec 𝓛)
symbols-accumulate-symbols-fixed =
    fixes symbols-accumulate-symbols.ended _ (answer-set symbols-accumulate-symbols.ended) refl (λ κs. refl)
    (λ κs a r e. (told_number r, e.1.0.now)) (λ κs a y. (unnumbered y.0, (tt, (y.1, tt)))) (λ κs a r ws. ap (λ x. (x, ws)) (number_back r))
