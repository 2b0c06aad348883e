-- Each public contract of place fixes its outcome. Written by tools/outcomes; the prover trusts nothing of it.
-- Assumes nothing.
use mathlib.Core.Path.{refl, ap}
use Rattle.outcomes.specs.Outcome.{Fixed, answer}
use Rattle.outcomes.proofs.Law.{fixes, answer-set}
use Rattle.refusals.proofs.Told.{unnumbered, number_back}
use Rattle.refusals.proofs.Told.{untold, told_back}
use Rattle.refusals.specs.Refusals.{told_number}
use Rattle.refusals.specs.Refusals.{told}
use Rattle.place.specs.contracts.Place.at as Place-at
use Rattle.place.specs.contracts.Place.is_listed as Place-is-listed
use Rattle.place.specs.contracts.Place.is_within as Place-is-within
use Rattle.place.specs.contracts.Place.earlier as Place-earlier
use Rattle.place.specs.contracts.Place.later as Place-later
use Rattle.place.specs.contracts.location.Location.agrees as location-Location-agrees
use Rattle.place.specs.contracts.location.Location.check as location-Location-check
use Rattle.place.specs.contracts.location.Location.earlier as location-Location-earlier
use Rattle.place.specs.contracts.location.Location.later as location-Location-later

pub Place-at-fixed : Fixed Place-at.ended (answer _) (λ M 𝓤 𝓛. Place-at.clauses 𝓛) (λ M 𝓤 𝓛. Place-at.spec 𝓛)
Place-at-fixed =
    fixes Place-at.ended _ (answer-set Place-at.ended) refl (λ κs. refl)
    (λ κs a r e. told r) (λ κs a y. (untold y, (tt, (tt, tt)))) (λ κs a r ws. ap (λ x. (x, ws)) (told_back r))

pub Place-is-listed-fixed : Fixed Place-is-listed.ended (answer _) (λ M 𝓤 𝓛. Place-is-listed.clauses 𝓛) (λ M 𝓤 𝓛. Place-is-listed.spec 𝓛)
Place-is-listed-fixed =
    fixes Place-is-listed.ended _ (answer-set Place-is-listed.ended) refl (λ κs. refl)
    (λ κs a r e. r) (λ κs a y. (y, (tt, (tt, tt)))) (λ κs a r ws. refl)

pub Place-is-within-fixed : Fixed Place-is-within.ended (answer _) (λ M 𝓤 𝓛. Place-is-within.clauses 𝓛) (λ M 𝓤 𝓛. Place-is-within.spec 𝓛)
Place-is-within-fixed =
    fixes Place-is-within.ended _ (answer-set Place-is-within.ended) refl (λ κs. refl)
    (λ κs a r e. r) (λ κs a y. (y, (tt, (tt, tt)))) (λ κs a r ws. refl)

pub Place-earlier-fixed : Fixed Place-earlier.ended (answer _) (λ M 𝓤 𝓛. Place-earlier.clauses 𝓛) (λ M 𝓤 𝓛. Place-earlier.spec 𝓛)
Place-earlier-fixed =
    fixes Place-earlier.ended _ (answer-set Place-earlier.ended) refl (λ κs. refl)
    (λ κs a r e. told r) (λ κs a y. (untold y, (tt, (tt, tt)))) (λ κs a r ws. ap (λ x. (x, ws)) (told_back r))

pub Place-later-fixed : Fixed Place-later.ended (answer _) (λ M 𝓤 𝓛. Place-later.clauses 𝓛) (λ M 𝓤 𝓛. Place-later.spec 𝓛)
Place-later-fixed =
    fixes Place-later.ended _ (answer-set Place-later.ended) refl (λ κs. refl)
    (λ κs a r e. told r) (λ κs a y. (untold y, (tt, (tt, tt)))) (λ κs a r ws. ap (λ x. (x, ws)) (told_back r))

pub location-Location-agrees-fixed : Fixed location-Location-agrees.ended (answer _) (λ M 𝓤 𝓛. location-Location-agrees.clauses 𝓛) (λ M 𝓤 𝓛. location-Location-agrees.spec 𝓛)
location-Location-agrees-fixed =
    fixes location-Location-agrees.ended _ (answer-set location-Location-agrees.ended) refl (λ κs. refl)
    (λ κs a r e. r) (λ κs a y. (y, (tt, tt))) (λ κs a r ws. refl)

pub location-Location-check-fixed : Fixed location-Location-check.ended (answer _) (λ M 𝓤 𝓛. location-Location-check.clauses 𝓛) (λ M 𝓤 𝓛. location-Location-check.spec 𝓛)
location-Location-check-fixed =
    fixes location-Location-check.ended _ (answer-set location-Location-check.ended) refl (λ κs. refl)
    (λ κs a r e. told_number r) (λ κs a y. (unnumbered y, (tt, (tt, tt)))) (λ κs a r ws. ap (λ x. (x, ws)) (number_back r))

pub location-Location-earlier-fixed : Fixed location-Location-earlier.ended (answer _) (λ M 𝓤 𝓛. location-Location-earlier.clauses 𝓛) (λ M 𝓤 𝓛. location-Location-earlier.spec 𝓛)
location-Location-earlier-fixed =
    fixes location-Location-earlier.ended _ (answer-set location-Location-earlier.ended) refl (λ κs. refl)
    (λ κs a r e. told r) (λ κs a y. (untold y, (tt, (tt, tt)))) (λ κs a r ws. ap (λ x. (x, ws)) (told_back r))

pub location-Location-later-fixed : Fixed location-Location-later.ended (answer _) (λ M 𝓤 𝓛. location-Location-later.clauses 𝓛) (λ M 𝓤 𝓛. location-Location-later.spec 𝓛)
location-Location-later-fixed =
    fixes location-Location-later.ended _ (answer-set location-Location-later.ended) refl (λ κs. refl)
    (λ κs a r e. told r) (λ κs a y. (untold y, (tt, (tt, tt)))) (λ κs a r ws. ap (λ x. (x, ws)) (told_back r))
