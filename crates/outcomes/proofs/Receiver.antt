-- Each public contract of receiver fixes its outcome. Written by tools/outcomes; the prover trusts nothing of it.
-- Assumes nothing.
use mathlib.Core.Path.{refl, ap}
use Rattle.outcomes.specs.Outcome.{Fixed, answer}
use Rattle.outcomes.proofs.Law.{fixes, answer-set}
use Rattle.refusals.proofs.Told.{unnumbered, number_back}
use Rattle.refusals.proofs.Told.{untold, told_back}
use Rattle.refusals.specs.Refusals.{told_number}
use Rattle.refusals.specs.Refusals.{told}
use Rattle.search.proofs.Told.{short_survivor_untold, short_survivor_back}
use Rattle.search.proofs.Told.{survivor_untold, survivor_back}
use Rattle.search.specs.Told.{short_survivor_told}
use Rattle.search.specs.Told.{survivor_told}
use Rattle.receiver.specs.contracts.decode.read_place as decode-read-place
use Rattle.receiver.specs.contracts.decode.read_place_short as decode-read-place-short
use Rattle.receiver.specs.contracts.decode.find_best_decode_candidate as decode-find-best-decode-candidate
use Rattle.receiver.specs.contracts.decode.find_best_decode_candidate_short as decode-find-best-decode-candidate-short
use Rattle.receiver.specs.contracts.decode.time_message as decode-time-message
use Rattle.receiver.specs.contracts.decode.time_message_short as decode-time-message-short
use Rattle.receiver.specs.contracts.decode.decode as decode-decode
use Rattle.receiver.specs.contracts.decode.decode_short as decode-decode-short
use Rattle.receiver.specs.contracts.decode.decode_both as decode-decode-both
use Rattle.receiver.specs.contracts.decode.decode_both_slowly as decode-decode-both-slowly
use Rattle.receiver.specs.contracts.tray.decode_tray as tray-decode-tray
use Rattle.receiver.specs.contracts.tray.decode_tray_both as tray-decode-tray-both
use Rattle.receiver.specs.contracts.trials.try_decode as trials-try-decode

pub decode-read-place-fixed : Fixed decode-read-place.ended (answer _) (λ M 𝓤 𝓛. decode-read-place.clauses 𝓛) (λ M 𝓤 𝓛. decode-read-place.spec 𝓛)
decode-read-place-fixed =
    fixes decode-read-place.ended _ (answer-set decode-read-place.ended) refl (λ κs. refl)
    (λ κs a r e. survivor_told r) (λ κs a y. (survivor_untold y, (tt, (tt, (tt, tt))))) (λ κs a r ws. ap (λ x. (x, ws)) (survivor_back r))

pub decode-read-place-short-fixed : Fixed decode-read-place-short.ended (answer _) (λ M 𝓤 𝓛. decode-read-place-short.clauses 𝓛) (λ M 𝓤 𝓛. decode-read-place-short.spec 𝓛)
decode-read-place-short-fixed =
    fixes decode-read-place-short.ended _ (answer-set decode-read-place-short.ended) refl (λ κs. refl)
    (λ κs a r e. short_survivor_told r) (λ κs a y. (short_survivor_untold y, (tt, (tt, (tt, tt))))) (λ κs a r ws. ap (λ x. (x, ws)) (short_survivor_back r))

pub decode-find-best-decode-candidate-fixed : Fixed decode-find-best-decode-candidate.ended (answer _) (λ M 𝓤 𝓛. decode-find-best-decode-candidate.clauses 𝓛) (λ M 𝓤 𝓛. decode-find-best-decode-candidate.spec 𝓛)
decode-find-best-decode-candidate-fixed =
    fixes decode-find-best-decode-candidate.ended _ (answer-set decode-find-best-decode-candidate.ended) refl (λ κs. refl)
    (λ κs a r e. survivor_told r) (λ κs a y. (survivor_untold y, (tt, (tt, tt)))) (λ κs a r ws. ap (λ x. (x, ws)) (survivor_back r))

pub decode-find-best-decode-candidate-short-fixed : Fixed decode-find-best-decode-candidate-short.ended (answer _) (λ M 𝓤 𝓛. decode-find-best-decode-candidate-short.clauses 𝓛) (λ M 𝓤 𝓛. decode-find-best-decode-candidate-short.spec 𝓛)
decode-find-best-decode-candidate-short-fixed =
    fixes decode-find-best-decode-candidate-short.ended _ (answer-set decode-find-best-decode-candidate-short.ended) refl (λ κs. refl)
    (λ κs a r e. short_survivor_told r) (λ κs a y. (short_survivor_untold y, (tt, (tt, tt)))) (λ κs a r ws. ap (λ x. (x, ws)) (short_survivor_back r))

pub decode-time-message-fixed : Fixed decode-time-message.ended (answer _) (λ M 𝓤 𝓛. decode-time-message.clauses 𝓛) (λ M 𝓤 𝓛. decode-time-message.spec 𝓛)
decode-time-message-fixed =
    fixes decode-time-message.ended _ (answer-set decode-time-message.ended) refl (λ κs. refl)
    (λ κs a r e. told r) (λ κs a y. (untold y, (tt, (tt, (tt, (tt, tt)))))) (λ κs a r ws. ap (λ x. (x, ws)) (told_back r))

pub decode-time-message-short-fixed : Fixed decode-time-message-short.ended (answer _) (λ M 𝓤 𝓛. decode-time-message-short.clauses 𝓛) (λ M 𝓤 𝓛. decode-time-message-short.spec 𝓛)
decode-time-message-short-fixed =
    fixes decode-time-message-short.ended _ (answer-set decode-time-message-short.ended) refl (λ κs. refl)
    (λ κs a r e. told r) (λ κs a y. (untold y, (tt, (tt, (tt, (tt, tt)))))) (λ κs a r ws. ap (λ x. (x, ws)) (told_back r))

pub decode-decode-fixed : Fixed decode-decode.ended (answer _) (λ M 𝓤 𝓛. decode-decode.clauses 𝓛) (λ M 𝓤 𝓛. decode-decode.spec 𝓛)
decode-decode-fixed =
    fixes decode-decode.ended _ (answer-set decode-decode.ended) refl (λ κs. refl)
    (λ κs a r e. r) (λ κs a y. (y, (tt, (tt, (tt, tt))))) (λ κs a r ws. refl)

pub decode-decode-short-fixed : Fixed decode-decode-short.ended (answer _) (λ M 𝓤 𝓛. decode-decode-short.clauses 𝓛) (λ M 𝓤 𝓛. decode-decode-short.spec 𝓛)
decode-decode-short-fixed =
    fixes decode-decode-short.ended _ (answer-set decode-decode-short.ended) refl (λ κs. refl)
    (λ κs a r e. r) (λ κs a y. (y, (tt, (tt, (tt, tt))))) (λ κs a r ws. refl)

pub decode-decode-both-fixed : Fixed decode-decode-both.ended (answer _) (λ M 𝓤 𝓛. decode-decode-both.clauses 𝓛) (λ M 𝓤 𝓛. decode-decode-both.spec 𝓛)
decode-decode-both-fixed =
    fixes decode-decode-both.ended _ (answer-set decode-decode-both.ended) refl (λ κs. refl)
    (λ κs a r e. r) (λ κs a y. (y, (tt, (tt, (tt, tt))))) (λ κs a r ws. refl)

pub decode-decode-both-slowly-fixed : Fixed decode-decode-both-slowly.ended (answer _) (λ M 𝓤 𝓛. decode-decode-both-slowly.clauses 𝓛) (λ M 𝓤 𝓛. decode-decode-both-slowly.spec 𝓛)
decode-decode-both-slowly-fixed =
    fixes decode-decode-both-slowly.ended _ (answer-set decode-decode-both-slowly.ended) refl (λ κs. refl)
    (λ κs a r e. r) (λ κs a y. (y, (tt, (tt, (tt, tt))))) (λ κs a r ws. refl)

pub tray-decode-tray-fixed : Fixed tray-decode-tray.ended (answer _) (λ M 𝓤 𝓛. tray-decode-tray.clauses 𝓛) (λ M 𝓤 𝓛. tray-decode-tray.spec 𝓛)
tray-decode-tray-fixed =
    fixes tray-decode-tray.ended _ (answer-set tray-decode-tray.ended) refl (λ κs. refl)
    (λ κs a r e. (told_number r, e.1.1.1.1.0.now, e.1.1.1.1.1.0.now, e.1.1.1.1.1.1.0.now)) (λ κs a y. (unnumbered y.0, (tt, (tt, (tt, (tt, (y.1, (y.2, (y.3, tt))))))))) (λ κs a r ws. ap (λ x. (x, ws)) (number_back r))

pub tray-decode-tray-both-fixed : Fixed tray-decode-tray-both.ended (answer _) (λ M 𝓤 𝓛. tray-decode-tray-both.clauses 𝓛) (λ M 𝓤 𝓛. tray-decode-tray-both.spec 𝓛)
tray-decode-tray-both-fixed =
    fixes tray-decode-tray-both.ended _ (answer-set tray-decode-tray-both.ended) refl (λ κs. refl)
    (λ κs a r e. (told_number r, e.1.1.1.1.0.now, e.1.1.1.1.1.0.now, e.1.1.1.1.1.1.0.now)) (λ κs a y. (unnumbered y.0, (tt, (tt, (tt, (tt, (y.1, (y.2, (y.3, tt))))))))) (λ κs a r ws. ap (λ x. (x, ws)) (number_back r))

pub trials-try-decode-fixed : Fixed trials-try-decode.ended (answer _) (λ M 𝓤 𝓛. trials-try-decode.clauses 𝓛) (λ M 𝓤 𝓛. trials-try-decode.spec 𝓛)
trials-try-decode-fixed =
    fixes trials-try-decode.ended _ (answer-set trials-try-decode.ended) refl (λ κs. refl)
    (λ κs a r e. told r) (λ κs a y. (untold y, (tt, (tt, (tt, (tt, tt)))))) (λ κs a r ws. ap (λ x. (x, ws)) (told_back r))
