-- Each public contract of rows fixes its outcome. Written by tools/outcomes; the prover trusts nothing of it.
-- Assumes nothing.
use mathlib.Core.Path.{refl, ap}
use Rattle.outcomes.specs.Outcome.{Fixed, answer}
use Rattle.outcomes.proofs.Law.{fixes, answer-set}
use Rattle.refusals.proofs.Told.{unnumbered, number_back}
use Rattle.refusals.specs.Refusals.{told_number}
use Rattle.rows.specs.contracts.put_fields as rows-put-fields
use Rattle.rows.specs.contracts.put_result as rows-put-result
use Rattle.rows.specs.contracts.row.words_of as row-words-of

pub rows-put-fields-fixed : Fixed rows-put-fields.ended (answer _) (λ M 𝓤 𝓛. rows-put-fields.clauses 𝓛) (λ M 𝓤 𝓛. rows-put-fields.spec 𝓛)
rows-put-fields-fixed =
    fixes rows-put-fields.ended _ (answer-set rows-put-fields.ended) refl (λ κs. refl)
    (λ κs a r e. (told_number r, e.1.1.1.0.now, e.1.1.1.1.0.now, e.1.1.1.1.1.0.now)) (λ κs a y. (unnumbered y.0, (tt, (tt, (tt, (y.1, (y.2, (y.3, tt)))))))) (λ κs a r ws. ap (λ x. (x, ws)) (number_back r))

pub rows-put-result-fixed : Fixed rows-put-result.ended (answer _) (λ M 𝓤 𝓛. rows-put-result.clauses 𝓛) (λ M 𝓤 𝓛. rows-put-result.spec 𝓛)
rows-put-result-fixed =
    fixes rows-put-result.ended _ (answer-set rows-put-result.ended) refl (λ κs. refl)
    (λ κs a r e. (told_number r, e.1.0.now, e.1.1.0.now, e.1.1.1.0.now)) (λ κs a y. (unnumbered y.0, (tt, (y.1, (y.2, (y.3, tt)))))) (λ κs a r ws. ap (λ x. (x, ws)) (number_back r))

pub row-words-of-fixed : Fixed row-words-of.ended (answer _) (λ M 𝓤 𝓛. row-words-of.clauses 𝓛) (λ M 𝓤 𝓛. row-words-of.spec 𝓛)
row-words-of-fixed =
    fixes row-words-of.ended _ (answer-set row-words-of.ended) refl (λ κs. refl)
    (λ κs a r e. r) (λ κs a y. (y, (tt, (tt, (tt, tt))))) (λ κs a r ws. refl)
