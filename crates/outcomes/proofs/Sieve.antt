-- Each public contract of sieve fixes its outcome. Written by tools/outcomes; the prover trusts nothing of it.
-- Assumes nothing.
use mathlib.Core.Path.{refl, ap}
use Rattle.outcomes.specs.Outcome.{Fixed, answer}
use Rattle.outcomes.proofs.Law.{fixes, answer-set}
use Rattle.refusals.proofs.Told.{unnumbered, number_back}
use Rattle.refusals.proofs.Told.{untold, told_back}
use Rattle.refusals.specs.Refusals.{told_number}
use Rattle.refusals.specs.Refusals.{told}
use Rattle.sieve.specs.contracts.find_repairable as sieve-find-repairable
use Rattle.sieve.specs.contracts.hash.write_hash as hash-write-hash

pub sieve-find-repairable-fixed : Fixed sieve-find-repairable.ended (answer _) (λ M 𝓤 𝓛. sieve-find-repairable.clauses 𝓛) (λ M 𝓤 𝓛. sieve-find-repairable.spec 𝓛)
sieve-find-repairable-fixed =
    fixes sieve-find-repairable.ended _ (answer-set sieve-find-repairable.ended) refl (λ κs. refl)
    (λ κs a r e. (told r, e.1.1.1.1.1.1.0.now, e.1.1.1.1.1.1.1.0.now)) (λ κs a y. (untold y.0, (tt, (tt, (tt, (tt, (tt, (tt, (y.1, (y.2, tt)))))))))) (λ κs a r ws. ap (λ x. (x, ws)) (told_back r))

pub hash-write-hash-fixed : Fixed hash-write-hash.ended (answer _) (λ M 𝓤 𝓛. hash-write-hash.clauses 𝓛) (λ M 𝓤 𝓛. hash-write-hash.spec 𝓛)
hash-write-hash-fixed =
    fixes hash-write-hash.ended _ (answer-set hash-write-hash.ended) refl (λ κs. refl)
    (λ κs a r e. (told_number r, e.0.now, e.1.0.now)) (λ κs a y. (unnumbered y.0, (y.1, (y.2, tt)))) (λ κs a r ws. ap (λ x. (x, ws)) (number_back r))
