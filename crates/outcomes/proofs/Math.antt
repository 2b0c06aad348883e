-- Each public contract of math fixes its outcome. Written by tools/outcomes; the prover trusts nothing of it.
-- Assumes nothing.
use mathlib.Core.Path.{refl}
use Rattle.outcomes.specs.Outcome.{Fixed, answer}
use Rattle.outcomes.proofs.Law.{fixes, answer-set}
use Rattle.math.specs.contracts.Complex.plus as Complex-plus
use Rattle.math.specs.contracts.Complex.norm as Complex-norm
use Rattle.math.specs.contracts.parabolic_interpolation as math-parabolic-interpolation
use Rattle.math.specs.contracts.is_finite as math-is-finite

pub Complex-plus-fixed : Fixed Complex-plus.ended (answer _) (λ M 𝓤 𝓛. Complex-plus.clauses 𝓛) (λ M 𝓤 𝓛. Complex-plus.spec 𝓛)
Complex-plus-fixed =
    fixes Complex-plus.ended _ (answer-set Complex-plus.ended) refl (λ κs. refl)
    (λ κs a r e. r) (λ κs a y. (y, (tt, (tt, tt)))) (λ κs a r ws. refl)

pub Complex-norm-fixed : Fixed Complex-norm.ended (answer _) (λ M 𝓤 𝓛. Complex-norm.clauses 𝓛) (λ M 𝓤 𝓛. Complex-norm.spec 𝓛)
Complex-norm-fixed =
    fixes Complex-norm.ended _ (answer-set Complex-norm.ended) refl (λ κs. refl)
    (λ κs a r e. r) (λ κs a y. (y, (tt, tt))) (λ κs a r ws. refl)

pub math-parabolic-interpolation-fixed : Fixed math-parabolic-interpolation.ended (answer _) (λ M 𝓤 𝓛. math-parabolic-interpolation.clauses 𝓛) (λ M 𝓤 𝓛. math-parabolic-interpolation.spec 𝓛)
math-parabolic-interpolation-fixed =
    fixes math-parabolic-interpolation.ended _ (answer-set math-parabolic-interpolation.ended) refl (λ κs. refl)
    (λ κs a r e. r) (λ κs a y. (y, (tt, (tt, (tt, tt))))) (λ κs a r ws. refl)

pub math-is-finite-fixed : Fixed math-is-finite.ended (answer _) (λ M 𝓤 𝓛. math-is-finite.clauses 𝓛) (λ M 𝓤 𝓛. math-is-finite.spec 𝓛)
math-is-finite-fixed =
    fixes math-is-finite.ended _ (answer-set math-is-finite.ended) refl (λ κs. refl)
    (λ κs a r e. r) (λ κs a y. (y, (tt, tt))) (λ κs a r ws. refl)
