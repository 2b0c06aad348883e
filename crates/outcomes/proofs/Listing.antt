-- Each public contract of listing fixes its outcome. Written by tools/outcomes; the prover trusts nothing of it.
-- Assumes nothing.
use mathlib.Core.Path.{refl}
use Rattle.outcomes.specs.Outcome.{Fixed, answer}
use Rattle.outcomes.proofs.Law.{fixes, answer-set}
use Rattle.listing.specs.contracts.lines.head_line as lines-head-line
use Rattle.listing.specs.contracts.lines.refused_line as lines-refused-line
use Rattle.listing.specs.contracts.lines.window_lines as lines-window-lines

pub lines-head-line-fixed : Fixed lines-head-line.ended (answer _) (λ M 𝓤 𝓛. lines-head-line.clauses 𝓛) (λ M 𝓤 𝓛. lines-head-line.spec 𝓛)
lines-head-line-fixed =
    fixes lines-head-line.ended _ (answer-set lines-head-line.ended) refl (λ κs. refl)
    (λ κs a r e. r) (λ κs a y. (y, (tt, tt))) (λ κs a r ws. refl)

pub lines-refused-line-fixed : Fixed lines-refused-line.ended (answer _) (λ M 𝓤 𝓛. lines-refused-line.clauses 𝓛) (λ M 𝓤 𝓛. lines-refused-line.spec 𝓛)
lines-refused-line-fixed =
    fixes lines-refused-line.ended _ (answer-set lines-refused-line.ended) refl (λ κs. refl)
    (λ κs a r e. r) (λ κs a y. (y, (tt, tt))) (λ κs a r ws. refl)

pub lines-window-lines-fixed : Fixed lines-window-lines.ended (answer _) (λ M 𝓤 𝓛. lines-window-lines.clauses 𝓛) (λ M 𝓤 𝓛. lines-window-lines.spec 𝓛)
lines-window-lines-fixed =
    fixes lines-window-lines.ended _ (answer-set lines-window-lines.ended) refl (λ κs. refl)
    (λ κs a r e. r) (λ κs a y. (y, (tt, (tt, (tt, tt))))) (λ κs a r ws. refl)
