-- Each public contract of feed fixes its outcome. Written by tools/outcomes; the prover trusts nothing of it.
-- Assumes nothing.
use mathlib.Core.Path.{refl}
use Rattle.outcomes.specs.Outcome.{Fixed, answer}
use Rattle.outcomes.proofs.Law.{fixes, answer-set}
use Rattle.feed.specs.contracts.machine.start as machine-start
use Rattle.feed.specs.contracts.machine.wanted as machine-wanted
use Rattle.feed.specs.contracts.machine.feed as machine-feed
use Rattle.feed.specs.contracts.machine.failed as machine-failed

pub machine-start-fixed : Fixed machine-start.ended (answer _) (λ M 𝓤 𝓛. machine-start.clauses 𝓛) (λ M 𝓤 𝓛. machine-start.spec 𝓛)
machine-start-fixed =
    fixes machine-start.ended _ (answer-set machine-start.ended) refl (λ κs. refl)
    (λ κs a r e. r) (λ κs a y. (y, tt)) (λ κs a r ws. refl)

pub machine-wanted-fixed : Fixed machine-wanted.ended (answer _) (λ M 𝓤 𝓛. machine-wanted.clauses 𝓛) (λ M 𝓤 𝓛. machine-wanted.spec 𝓛)
machine-wanted-fixed =
    fixes machine-wanted.ended _ (answer-set machine-wanted.ended) refl (λ κs. refl)
    (λ κs a r e. r) (λ κs a y. (y, (tt, tt))) (λ κs a r ws. refl)

pub machine-feed-fixed : Fixed machine-feed.ended (answer _) (λ M 𝓤 𝓛. machine-feed.clauses 𝓛) (λ M 𝓤 𝓛. machine-feed.spec 𝓛)
machine-feed-fixed =
    fixes machine-feed.ended _ (answer-set machine-feed.ended) refl (λ κs. refl)
    (λ κs a r e. r) (λ κs a y. (y, (tt, (tt, tt)))) (λ κs a r ws. refl)

pub machine-failed-fixed : Fixed machine-failed.ended (answer _) (λ M 𝓤 𝓛. machine-failed.clauses 𝓛) (λ M 𝓤 𝓛. machine-failed.spec 𝓛)
machine-failed-fixed =
    fixes machine-failed.ended _ (answer-set machine-failed.ended) refl (λ κs. refl)
    (λ κs a r e. r) (λ κs a y. (y, (tt, tt))) (λ κs a r ws. refl)
