-- Each public contract of words fixes its outcome. Written by tools/outcomes; the prover trusts nothing of it.
-- Assumes nothing.
use mathlib.Core.Path.{refl}
use Rattle.outcomes.specs.Outcome.{Fixed, answer}
use Rattle.outcomes.proofs.Law.{fixes, answer-set}
use Rattle.words.specs.contracts.float.float_of as float-float-of
use Rattle.words.specs.contracts.float.bits_of as float-bits-of
use Rattle.words.specs.contracts.float.window_floats as float-window-floats
use Rattle.words.specs.contracts.numbers.word as numbers-word
use Rattle.words.specs.contracts.numbers.long as numbers-long

pub float-float-of-fixed : Fixed float-float-of.ended (answer _) (λ M 𝓤 𝓛. float-float-of.clauses 𝓛) (λ M 𝓤 𝓛. float-float-of.spec 𝓛)
float-float-of-fixed =
    fixes float-float-of.ended _ (answer-set float-float-of.ended) refl (λ κs. refl)
    (λ κs a r e. r) (λ κs a y. (y, (tt, tt))) (λ κs a r ws. refl)

pub float-bits-of-fixed : Fixed float-bits-of.ended (answer _) (λ M 𝓤 𝓛. float-bits-of.clauses 𝓛) (λ M 𝓤 𝓛. float-bits-of.spec 𝓛)
float-bits-of-fixed =
    fixes float-bits-of.ended _ (answer-set float-bits-of.ended) refl (λ κs. refl)
    (λ κs a r e. r) (λ κs a y. (y, (tt, tt))) (λ κs a r ws. refl)

pub float-window-floats-fixed : Fixed float-window-floats.ended (answer _) (λ M 𝓤 𝓛. float-window-floats.clauses 𝓛) (λ M 𝓤 𝓛. float-window-floats.spec 𝓛)
float-window-floats-fixed =
    fixes float-window-floats.ended _ (answer-set float-window-floats.ended) refl (λ κs. refl)
    (λ κs a r e. (r, e.1.0.now)) (λ κs a y. (y.0, (tt, (y.1, tt)))) (λ κs a r ws. refl)

pub numbers-word-fixed : Fixed numbers-word.ended (answer _) (λ M 𝓤 𝓛. numbers-word.clauses 𝓛) (λ M 𝓤 𝓛. numbers-word.spec 𝓛)
numbers-word-fixed =
    fixes numbers-word.ended _ (answer-set numbers-word.ended) refl (λ κs. refl)
    (λ κs a r e. r) (λ κs a y. (y, (tt, tt))) (λ κs a r ws. refl)

pub numbers-long-fixed : Fixed numbers-long.ended (answer _) (λ M 𝓤 𝓛. numbers-long.clauses 𝓛) (λ M 𝓤 𝓛. numbers-long.spec 𝓛)
numbers-long-fixed =
    fixes numbers-long.ended _ (answer-set numbers-long.ended) refl (λ κs. refl)
    (λ κs a r e. r) (λ κs a y. (y, (tt, tt))) (λ κs a r ws. refl)
