-- Each public contract of parts fixes its outcome. Written by tools/outcomes; the prover trusts nothing of it.
-- Assumes nothing.
use mathlib.Core.Path.{refl, ap}
use Rattle.outcomes.specs.Outcome.{Fixed, answer, part}
use Rattle.outcomes.proofs.Law.{fixes, answer-set, part-set}
use Rattle.refusals.proofs.Told.{unnumbered, number_back}
use Rattle.refusals.proofs.Told.{untold, told_back}
use Rattle.refusals.specs.Refusals.{told_number}
use Rattle.refusals.specs.Refusals.{told}
use Rattle.parts.specs.contracts.check_symbols as parts-check-symbols
use Rattle.parts.specs.contracts.symbols_for_location as parts-symbols-for-location
use Rattle.parts.specs.contracts.check_samples as parts-check-samples
use Rattle.parts.specs.contracts.samples_for_location as parts-samples-for-location
use Rattle.parts.specs.contracts.check_streams as parts-check-streams
use Rattle.parts.specs.contracts.part_size as parts-part-size
use Rattle.parts.specs.contracts.slicer_part as parts-slicer-part

pub parts-check-symbols-fixed : Fixed parts-check-symbols.ended (answer _) (λ M 𝓤 𝓛. parts-check-symbols.clauses 𝓛) (λ M 𝓤 𝓛. parts-check-symbols.spec 𝓛)
parts-check-symbols-fixed =
    fixes parts-check-symbols.ended _ (answer-set parts-check-symbols.ended) refl (λ κs. refl)
    (λ κs a r e. told_number r) (λ κs a y. (unnumbered y, (tt, (tt, (tt, tt))))) (λ κs a r ws. ap (λ x. (x, ws)) (number_back r))

pub parts-symbols-for-location-fixed : Fixed parts-symbols-for-location.ended (part _ _ (λ κs r. r)) (λ M 𝓤 𝓛. parts-symbols-for-location.clauses 𝓛) (λ M 𝓤 𝓛. parts-symbols-for-location.spec 𝓛)
parts-symbols-for-location-fixed =
    fixes parts-symbols-for-location.ended _ (λ κs. part-set (answer-set parts-symbols-for-location.ended κs)) refl (λ κs. refl)
    (λ κs a r e. r.now) (λ κs a y. (y, (tt, (tt, (tt, tt))))) (λ κs a r ws. refl)

pub parts-check-samples-fixed : Fixed parts-check-samples.ended (answer _) (λ M 𝓤 𝓛. parts-check-samples.clauses 𝓛) (λ M 𝓤 𝓛. parts-check-samples.spec 𝓛)
parts-check-samples-fixed =
    fixes parts-check-samples.ended _ (answer-set parts-check-samples.ended) refl (λ κs. refl)
    (λ κs a r e. told_number r) (λ κs a y. (unnumbered y, (tt, (tt, (tt, tt))))) (λ κs a r ws. ap (λ x. (x, ws)) (number_back r))

pub parts-samples-for-location-fixed : Fixed parts-samples-for-location.ended (part _ _ (λ κs r. r)) (λ M 𝓤 𝓛. parts-samples-for-location.clauses 𝓛) (λ M 𝓤 𝓛. parts-samples-for-location.spec 𝓛)
parts-samples-for-location-fixed =
    fixes parts-samples-for-location.ended _ (λ κs. part-set (answer-set parts-samples-for-location.ended κs)) refl (λ κs. refl)
    (λ κs a r e. r.now) (λ κs a y. (y, (tt, (tt, (tt, tt))))) (λ κs a r ws. refl)

pub parts-check-streams-fixed : Fixed parts-check-streams.ended (answer _) (λ M 𝓤 𝓛. parts-check-streams.clauses 𝓛) (λ M 𝓤 𝓛. parts-check-streams.spec 𝓛)
parts-check-streams-fixed =
    fixes parts-check-streams.ended _ (answer-set parts-check-streams.ended) refl (λ κs. refl)
    (λ κs a r e. told_number r) (λ κs a y. (unnumbered y, (tt, (tt, (tt, (tt, tt)))))) (λ κs a r ws. ap (λ x. (x, ws)) (number_back r))

pub parts-part-size-fixed : Fixed parts-part-size.ended (answer _) (λ M 𝓤 𝓛. parts-part-size.clauses 𝓛) (λ M 𝓤 𝓛. parts-part-size.spec 𝓛)
parts-part-size-fixed =
    fixes parts-part-size.ended _ (answer-set parts-part-size.ended) refl (λ κs. refl)
    (λ κs a r e. told r) (λ κs a y. (untold y, (tt, (tt, tt)))) (λ κs a r ws. ap (λ x. (x, ws)) (told_back r))

pub parts-slicer-part-fixed : Fixed parts-slicer-part.ended (part _ _ (λ κs r. r)) (λ M 𝓤 𝓛. parts-slicer-part.clauses 𝓛) (λ M 𝓤 𝓛. parts-slicer-part.spec 𝓛)
parts-slicer-part-fixed =
    fixes parts-slicer-part.ended _ (λ κs. part-set (answer-set parts-slicer-part.ended κs)) refl (λ κs. refl)
    (λ κs a r e. r.now) (λ κs a y. (y, (tt, (tt, (tt, (tt, tt)))))) (λ κs a r ws. refl)
