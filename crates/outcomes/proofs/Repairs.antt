-- Each public contract of repairs fixes its outcome. Written by tools/outcomes; the prover trusts nothing of it.
-- Assumes nothing.
use mathlib.Core.Path.{refl, ap}
use Rattle.outcomes.specs.Outcome.{Fixed, answer}
use Rattle.outcomes.proofs.Law.{fixes, answer-set}
use Rattle.refusals.proofs.Told.{unnumbered, number_back}
use Rattle.refusals.proofs.Told.{untold, told_back}
use Rattle.refusals.specs.Refusals.{told_number}
use Rattle.refusals.specs.Refusals.{told}
use Rattle.repairs.specs.contracts.single_bit_error_from_crc24 as repairs-single-bit-error-from-crc24
use Rattle.repairs.specs.contracts.double_bit_error_from_crc24 as repairs-double-bit-error-from-crc24
use Rattle.repairs.specs.contracts.repair as repairs-repair
use Rattle.repairs.specs.contracts.named.pattern_of as named-pattern-of
use Rattle.repairs.specs.contracts.named.bit_errors_named as named-bit-errors-named
use Rattle.repairs.specs.contracts.rows.bit_errors_from_crc24s as rows-bit-errors-from-crc24s

pub repairs-single-bit-error-from-crc24-fixed : Fixed repairs-single-bit-error-from-crc24.ended (answer _) (λ M 𝓤 𝓛. repairs-single-bit-error-from-crc24.clauses 𝓛) (λ M 𝓤 𝓛. repairs-single-bit-error-from-crc24.spec 𝓛)
repairs-single-bit-error-from-crc24-fixed =
    fixes repairs-single-bit-error-from-crc24.ended _ (answer-set repairs-single-bit-error-from-crc24.ended) refl (λ κs. refl)
    (λ κs a r e. r) (λ κs a y. (y, (tt, tt))) (λ κs a r ws. refl)

pub repairs-double-bit-error-from-crc24-fixed : Fixed repairs-double-bit-error-from-crc24.ended (answer _) (λ M 𝓤 𝓛. repairs-double-bit-error-from-crc24.clauses 𝓛) (λ M 𝓤 𝓛. repairs-double-bit-error-from-crc24.spec 𝓛)
repairs-double-bit-error-from-crc24-fixed =
    fixes repairs-double-bit-error-from-crc24.ended _ (answer-set repairs-double-bit-error-from-crc24.ended) refl (λ κs. refl)
    (λ κs a r e. r) (λ κs a y. (y, (tt, tt))) (λ κs a r ws. refl)

pub repairs-repair-fixed : Fixed repairs-repair.ended (answer _) (λ M 𝓤 𝓛. repairs-repair.clauses 𝓛) (λ M 𝓤 𝓛. repairs-repair.spec 𝓛)
repairs-repair-fixed =
    fixes repairs-repair.ended _ (answer-set repairs-repair.ended) refl (λ κs. refl)
    (λ κs a r e. told r) (λ κs a y. (untold y, (tt, (tt, tt)))) (λ κs a r ws. ap (λ x. (x, ws)) (told_back r))

pub named-pattern-of-fixed : Fixed named-pattern-of.ended (answer _) (λ M 𝓤 𝓛. named-pattern-of.clauses 𝓛) (λ M 𝓤 𝓛. named-pattern-of.spec 𝓛)
named-pattern-of-fixed =
    fixes named-pattern-of.ended _ (answer-set named-pattern-of.ended) refl (λ κs. refl)
    (λ κs a r e. r) (λ κs a y. (y, (tt, tt))) (λ κs a r ws. refl)

pub named-bit-errors-named-fixed : Fixed named-bit-errors-named.ended (answer _) (λ M 𝓤 𝓛. named-bit-errors-named.clauses 𝓛) (λ M 𝓤 𝓛. named-bit-errors-named.spec 𝓛)
named-bit-errors-named-fixed =
    fixes named-bit-errors-named.ended _ (answer-set named-bit-errors-named.ended) refl (λ κs. refl)
    (λ κs a r e. r) (λ κs a y. (y, (tt, (tt, (tt, (tt, tt)))))) (λ κs a r ws. refl)

pub rows-bit-errors-from-crc24s-fixed : Fixed rows-bit-errors-from-crc24s.ended (answer _) (λ M 𝓤 𝓛. rows-bit-errors-from-crc24s.clauses 𝓛) (λ M 𝓤 𝓛. rows-bit-errors-from-crc24s.spec 𝓛)
rows-bit-errors-from-crc24s-fixed =
    fixes rows-bit-errors-from-crc24s.ended _ (answer-set rows-bit-errors-from-crc24s.ended) refl (λ κs. refl)
    (λ κs a r e. (told_number r, e.1.1.1.0.now)) (λ κs a y. (unnumbered y.0, (tt, (tt, (tt, (y.1, tt)))))) (λ κs a r ws. ap (λ x. (x, ws)) (number_back r))
