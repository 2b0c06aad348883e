-- Each public contract of streams fixes its outcome. Written by tools/outcomes; the prover trusts nothing of it.
-- Assumes nothing.
use mathlib.Core.Path.{refl, ap}
use Rattle.outcomes.specs.Outcome.{Fixed, answer}
use Rattle.outcomes.proofs.Law.{fixes, answer-set}
use Rattle.refusals.proofs.Told.{untold, told_back}
use Rattle.refusals.specs.Refusals.{told}
use Rattle.streams.specs.contracts.crc.compute_crc as crc-compute-crc
use Rattle.streams.specs.contracts.distance.compute_hamming_distance as distance-compute-hamming-distance
use Rattle.streams.specs.contracts.header.df_is_valid_extended_squitter as header-df-is-valid-extended-squitter
use Rattle.streams.specs.contracts.header.df_is_valid_acquisition_squitter as header-df-is-valid-acquisition-squitter
use Rattle.streams.specs.contracts.message.extract_message as message-extract-message
use Rattle.streams.specs.contracts.message.extract_message_short as message-extract-message-short
use Rattle.streams.specs.contracts.message.message_from_part as message-message-from-part
use Rattle.streams.specs.contracts.message.message_from_part_short as message-message-from-part-short

pub crc-compute-crc-fixed : Fixed crc-compute-crc.ended (answer _) (λ M 𝓤 𝓛. crc-compute-crc.clauses 𝓛) (λ M 𝓤 𝓛. crc-compute-crc.spec 𝓛)
crc-compute-crc-fixed =
    fixes crc-compute-crc.ended _ (answer-set crc-compute-crc.ended) refl (λ κs. refl)
    (λ κs a r e. told r) (λ κs a y. (untold y, (tt, (tt, (tt, tt))))) (λ κs a r ws. ap (λ x. (x, ws)) (told_back r))

pub distance-compute-hamming-distance-fixed : Fixed distance-compute-hamming-distance.ended (answer _) (λ M 𝓤 𝓛. distance-compute-hamming-distance.clauses 𝓛) (λ M 𝓤 𝓛. distance-compute-hamming-distance.spec 𝓛)
distance-compute-hamming-distance-fixed =
    fixes distance-compute-hamming-distance.ended _ (answer-set distance-compute-hamming-distance.ended) refl (λ κs. refl)
    (λ κs a r e. told r) (λ κs a y. (untold y, (tt, (tt, (tt, tt))))) (λ κs a r ws. ap (λ x. (x, ws)) (told_back r))

pub header-df-is-valid-extended-squitter-fixed : Fixed header-df-is-valid-extended-squitter.ended (answer _) (λ M 𝓤 𝓛. header-df-is-valid-extended-squitter.clauses 𝓛) (λ M 𝓤 𝓛. header-df-is-valid-extended-squitter.spec 𝓛)
header-df-is-valid-extended-squitter-fixed =
    fixes header-df-is-valid-extended-squitter.ended _ (answer-set header-df-is-valid-extended-squitter.ended) refl (λ κs. refl)
    (λ κs a r e. told r) (λ κs a y. (untold y, (tt, (tt, (tt, tt))))) (λ κs a r ws. ap (λ x. (x, ws)) (told_back r))

pub header-df-is-valid-acquisition-squitter-fixed : Fixed header-df-is-valid-acquisition-squitter.ended (answer _) (λ M 𝓤 𝓛. header-df-is-valid-acquisition-squitter.clauses 𝓛) (λ M 𝓤 𝓛. header-df-is-valid-acquisition-squitter.spec 𝓛)
header-df-is-valid-acquisition-squitter-fixed =
    fixes header-df-is-valid-acquisition-squitter.ended _ (answer-set header-df-is-valid-acquisition-squitter.ended) refl (λ κs. refl)
    (λ κs a r e. told r) (λ κs a y. (untold y, (tt, (tt, (tt, tt))))) (λ κs a r ws. ap (λ x. (x, ws)) (told_back r))

pub message-extract-message-fixed : Fixed message-extract-message.ended (answer _) (λ M 𝓤 𝓛. message-extract-message.clauses 𝓛) (λ M 𝓤 𝓛. message-extract-message.spec 𝓛)
message-extract-message-fixed =
    fixes message-extract-message.ended _ (answer-set message-extract-message.ended) refl (λ κs. refl)
    (λ κs a r e. told r) (λ κs a y. (untold y, (tt, (tt, tt)))) (λ κs a r ws. ap (λ x. (x, ws)) (told_back r))

pub message-extract-message-short-fixed : Fixed message-extract-message-short.ended (answer _) (λ M 𝓤 𝓛. message-extract-message-short.clauses 𝓛) (λ M 𝓤 𝓛. message-extract-message-short.spec 𝓛)
message-extract-message-short-fixed =
    fixes message-extract-message-short.ended _ (answer-set message-extract-message-short.ended) refl (λ κs. refl)
    (λ κs a r e. told r) (λ κs a y. (untold y, (tt, (tt, tt)))) (λ κs a r ws. ap (λ x. (x, ws)) (told_back r))

pub message-message-from-part-fixed : Fixed message-message-from-part.ended (answer _) (λ M 𝓤 𝓛. message-message-from-part.clauses 𝓛) (λ M 𝓤 𝓛. message-message-from-part.spec 𝓛)
message-message-from-part-fixed =
    fixes message-message-from-part.ended _ (answer-set message-message-from-part.ended) refl (λ κs. refl)
    (λ κs a r e. told r) (λ κs a y. (untold y, (tt, (tt, tt)))) (λ κs a r ws. ap (λ x. (x, ws)) (told_back r))

pub message-message-from-part-short-fixed : Fixed message-message-from-part-short.ended (answer _) (λ M 𝓤 𝓛. message-message-from-part-short.clauses 𝓛) (λ M 𝓤 𝓛. message-message-from-part-short.spec 𝓛)
message-message-from-part-short-fixed =
    fixes message-message-from-part-short.ended _ (answer-set message-message-from-part-short.ended) refl (λ κs. refl)
    (λ κs a r e. told r) (λ κs a y. (untold y, (tt, (tt, tt)))) (λ κs a r ws. ap (λ x. (x, ws)) (told_back r))
