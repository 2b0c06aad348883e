-- Each public contract of scan fixes its outcome. Written by tools/outcomes; the prover trusts nothing of it.
-- Assumes nothing.
use mathlib.Core.Path.{refl, ap}
use Rattle.outcomes.specs.Outcome.{Fixed, answer}
use Rattle.outcomes.proofs.Law.{fixes, answer-set}
use Rattle.refusals.proofs.Told.{unnumbered, number_back}
use Rattle.refusals.proofs.Told.{untold, told_back}
use Rattle.refusals.specs.Refusals.{told_number}
use Rattle.refusals.specs.Refusals.{told}
use Rattle.scan.specs.contracts.list.list_exact as list-list-exact
use Rattle.scan.specs.contracts.stream.find_stream as stream-find-stream
use Rattle.scan.specs.contracts.stream.find_first_byte as stream-find-first-byte
use Rattle.scan.specs.contracts.window.scan as window-scan
use Rattle.scan.specs.contracts.window.scan_both as window-scan-both

pub list-list-exact-fixed : Fixed list-list-exact.ended (answer _) (λ M 𝓤 𝓛. list-list-exact.clauses 𝓛) (λ M 𝓤 𝓛. list-list-exact.spec 𝓛)
list-list-exact-fixed =
    fixes list-list-exact.ended _ (answer-set list-list-exact.ended) refl (λ κs. refl)
    (λ κs a r e. (told r, e.1.1.1.1.1.0.now)) (λ κs a y. (untold y.0, (tt, (tt, (tt, (tt, (tt, (y.1, tt)))))))) (λ κs a r ws. ap (λ x. (x, ws)) (told_back r))

pub stream-find-stream-fixed : Fixed stream-find-stream.ended (answer _) (λ M 𝓤 𝓛. stream-find-stream.clauses 𝓛) (λ M 𝓤 𝓛. stream-find-stream.spec 𝓛)
stream-find-stream-fixed =
    fixes stream-find-stream.ended _ (answer-set stream-find-stream.ended) refl (λ κs. refl)
    (λ κs a r e. (told_number r, e.1.1.0.now)) (λ κs a y. (unnumbered y.0, (tt, (tt, (y.1, tt))))) (λ κs a r ws. ap (λ x. (x, ws)) (number_back r))

pub stream-find-first-byte-fixed : Fixed stream-find-first-byte.ended (answer _) (λ M 𝓤 𝓛. stream-find-first-byte.clauses 𝓛) (λ M 𝓤 𝓛. stream-find-first-byte.spec 𝓛)
stream-find-first-byte-fixed =
    fixes stream-find-first-byte.ended _ (answer-set stream-find-first-byte.ended) refl (λ κs. refl)
    (λ κs a r e. told r) (λ κs a y. (untold y, (tt, (tt, tt)))) (λ κs a r ws. ap (λ x. (x, ws)) (told_back r))

pub window-scan-fixed : Fixed window-scan.ended (answer _) (λ M 𝓤 𝓛. window-scan.clauses 𝓛) (λ M 𝓤 𝓛. window-scan.spec 𝓛)
window-scan-fixed =
    fixes window-scan.ended _ (answer-set window-scan.ended) refl (λ κs. refl)
    (λ κs a r e. (told_number r, e.1.1.0.now, e.1.1.1.0.now, e.1.1.1.1.0.now, e.1.1.1.1.1.0.now, e.1.1.1.1.1.1.0.now)) (λ κs a y. (unnumbered y.0, (tt, (tt, (y.1, (y.2, (y.3, (y.4, (y.5, tt))))))))) (λ κs a r ws. ap (λ x. (x, ws)) (number_back r))

pub window-scan-both-fixed : Fixed window-scan-both.ended (answer _) (λ M 𝓤 𝓛. window-scan-both.clauses 𝓛) (λ M 𝓤 𝓛. window-scan-both.spec 𝓛)
window-scan-both-fixed =
    fixes window-scan-both.ended _ (answer-set window-scan-both.ended) refl (λ κs. refl)
    (λ κs a r e. (told_number r, e.1.0.now, e.1.1.0.now, e.1.1.1.0.now, e.1.1.1.1.0.now, e.1.1.1.1.1.0.now, e.1.1.1.1.1.1.0.now, e.1.1.1.1.1.1.1.0.now)) (λ κs a y. (unnumbered y.0, (tt, (y.1, (y.2, (y.3, (y.4, (y.5, (y.6, (y.7, tt)))))))))) (λ κs a r ws. ap (λ x. (x, ws)) (number_back r))
