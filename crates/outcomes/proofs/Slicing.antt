-- Each public contract of slicing fixes its outcome. Written by tools/outcomes; the prover trusts nothing of it.
-- Assumes nothing.
use mathlib.Core.Path.{refl, ap}
use Rattle.outcomes.specs.Outcome.{Fixed, answer}
use Rattle.outcomes.proofs.Law.{fixes, answer-set}
use Rattle.refusals.proofs.Told.{unnumbered, number_back}
use Rattle.refusals.proofs.Told.{untold, told_back}
use Rattle.refusals.specs.Refusals.{told_number}
use Rattle.refusals.specs.Refusals.{told}
use Rattle.slicing.specs.contracts.slicers.demodulate as slicers-demodulate
use Rattle.slicing.specs.contracts.undecided.count_undecided as undecided-count-undecided

pub slicers-demodulate-fixed : Fixed slicers-demodulate.ended (answer _) (λ M 𝓤 𝓛. slicers-demodulate.clauses 𝓛) (λ M 𝓤 𝓛. slicers-demodulate.spec 𝓛)
slicers-demodulate-fixed =
    fixes slicers-demodulate.ended _ (answer-set slicers-demodulate.ended) refl (λ κs. refl)
    (λ κs a r e. (told_number r, e.1.0.now, e.1.1.0.now, e.1.1.1.0.now, e.1.1.1.1.0.now)) (λ κs a y. (unnumbered y.0, (tt, (y.1, (y.2, (y.3, (y.4, tt))))))) (λ κs a r ws. ap (λ x. (x, ws)) (number_back r))

pub undecided-count-undecided-fixed : Fixed undecided-count-undecided.ended (answer _) (λ M 𝓤 𝓛. undecided-count-undecided.clauses 𝓛) (λ M 𝓤 𝓛. undecided-count-undecided.spec 𝓛)
undecided-count-undecided-fixed =
    fixes undecided-count-undecided.ended _ (answer-set undecided-count-undecided.ended) refl (λ κs. refl)
    (λ κs a r e. told r) (λ κs a y. (untold y, (tt, (tt, tt)))) (λ κs a r ws. ap (λ x. (x, ws)) (told_back r))
