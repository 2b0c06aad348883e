-- Each public contract of choice fixes its outcome. Written by tools/outcomes; the prover trusts nothing of it.
-- Assumes nothing.
use mathlib.Core.Path.{refl, ap}
use Rattle.outcomes.specs.Outcome.{Fixed, answer}
use Rattle.outcomes.proofs.Law.{fixes, answer-set}
use Rattle.refusals.proofs.Told.{unnumbered, number_back}
use Rattle.refusals.proofs.Told.{untold, told_back}
use Rattle.refusals.specs.Refusals.{told_number}
use Rattle.refusals.specs.Refusals.{told}
use Rattle.choice.specs.contracts.best.displaces as best-displaces
use Rattle.choice.specs.contracts.filter.filter_out_decode_candidate as filter-filter-out-decode-candidate
use Rattle.choice.specs.contracts.settings.check_settings as settings-check-settings
use Rattle.choice.specs.contracts.settings.check_index as settings-check-index

pub best-displaces-fixed : Fixed best-displaces.ended (answer _) (λ M 𝓤 𝓛. best-displaces.clauses 𝓛) (λ M 𝓤 𝓛. best-displaces.spec 𝓛)
best-displaces-fixed =
    fixes best-displaces.ended _ (answer-set best-displaces.ended) refl (λ κs. refl)
    (λ κs a r e. r) (λ κs a y. (y, (tt, (tt, (tt, (tt, tt)))))) (λ κs a r ws. refl)

pub filter-filter-out-decode-candidate-fixed : Fixed filter-filter-out-decode-candidate.ended (answer _) (λ M 𝓤 𝓛. filter-filter-out-decode-candidate.clauses 𝓛) (λ M 𝓤 𝓛. filter-filter-out-decode-candidate.spec 𝓛)
filter-filter-out-decode-candidate-fixed =
    fixes filter-filter-out-decode-candidate.ended _ (answer-set filter-filter-out-decode-candidate.ended) refl (λ κs. refl)
    (λ κs a r e. told r) (λ κs a y. (untold y, (tt, (tt, (tt, tt))))) (λ κs a r ws. ap (λ x. (x, ws)) (told_back r))

pub settings-check-settings-fixed : Fixed settings-check-settings.ended (answer _) (λ M 𝓤 𝓛. settings-check-settings.clauses 𝓛) (λ M 𝓤 𝓛. settings-check-settings.spec 𝓛)
settings-check-settings-fixed =
    fixes settings-check-settings.ended _ (answer-set settings-check-settings.ended) refl (λ κs. refl)
    (λ κs a r e. told_number r) (λ κs a y. (unnumbered y, (tt, tt))) (λ κs a r ws. ap (λ x. (x, ws)) (number_back r))

pub settings-check-index-fixed : Fixed settings-check-index.ended (answer _) (λ M 𝓤 𝓛. settings-check-index.clauses 𝓛) (λ M 𝓤 𝓛. settings-check-index.spec 𝓛)
settings-check-index-fixed =
    fixes settings-check-index.ended _ (answer-set settings-check-index.ended) refl (λ κs. refl)
    (λ κs a r e. told_number r) (λ κs a y. (unnumbered y, (tt, tt))) (λ κs a r ws. ap (λ x. (x, ws)) (number_back r))
