-- Each public contract of mode_s fixes its outcome. Written by tools/outcomes; the prover trusts nothing of it.
-- Assumes nothing.
use mathlib.Core.Path.{refl, ap}
use Rattle.outcomes.specs.Outcome.{Fixed, answer}
use Rattle.outcomes.proofs.Law.{fixes, answer-set}
use Rattle.refusals.proofs.Told.{unnumbered, number_back}
use Rattle.refusals.proofs.Told.{untold, told_back}
use Rattle.refusals.specs.Refusals.{told_number}
use Rattle.refusals.specs.Refusals.{told}
use Rattle.mode_s.specs.contracts.avr.high_digit as avr-high-digit
use Rattle.mode_s.specs.contracts.avr.low_digit as avr-low-digit
use Rattle.mode_s.specs.contracts.avr.format_avr as avr-format-avr
use Rattle.mode_s.specs.contracts.crc.crc24 as crc-crc24
use Rattle.mode_s.specs.contracts.header.header_is_valid as header-header-is-valid
use Rattle.mode_s.specs.contracts.header.address_kind as header-address-kind
use Rattle.mode_s.specs.contracts.message.ModeSMessage.short as message-ModeSMessage-short
use Rattle.mode_s.specs.contracts.message.ModeSMessage.long as message-ModeSMessage-long
use Rattle.mode_s.specs.contracts.message.ModeSMessage.num_bits as message-ModeSMessage-num-bits
use Rattle.mode_s.specs.contracts.repair.correct_message_bit_errors as repair-correct-message-bit-errors

pub avr-high-digit-fixed : Fixed avr-high-digit.ended (answer _) (λ M 𝓤 𝓛. avr-high-digit.clauses 𝓛) (λ M 𝓤 𝓛. avr-high-digit.spec 𝓛)
avr-high-digit-fixed =
    fixes avr-high-digit.ended _ (answer-set avr-high-digit.ended) refl (λ κs. refl)
    (λ κs a r e. r) (λ κs a y. (y, (tt, tt))) (λ κs a r ws. refl)

pub avr-low-digit-fixed : Fixed avr-low-digit.ended (answer _) (λ M 𝓤 𝓛. avr-low-digit.clauses 𝓛) (λ M 𝓤 𝓛. avr-low-digit.spec 𝓛)
avr-low-digit-fixed =
    fixes avr-low-digit.ended _ (answer-set avr-low-digit.ended) refl (λ κs. refl)
    (λ κs a r e. r) (λ κs a y. (y, (tt, tt))) (λ κs a r ws. refl)

pub avr-format-avr-fixed : Fixed avr-format-avr.ended (answer _) (λ M 𝓤 𝓛. avr-format-avr.clauses 𝓛) (λ M 𝓤 𝓛. avr-format-avr.spec 𝓛)
avr-format-avr-fixed =
    fixes avr-format-avr.ended _ (answer-set avr-format-avr.ended) refl (λ κs. refl)
    (λ κs a r e. (told_number r, e.1.0.now)) (λ κs a y. (unnumbered y.0, (tt, (y.1, tt)))) (λ κs a r ws. ap (λ x. (x, ws)) (number_back r))

pub crc-crc24-fixed : Fixed crc-crc24.ended (answer _) (λ M 𝓤 𝓛. crc-crc24.clauses 𝓛) (λ M 𝓤 𝓛. crc-crc24.spec 𝓛)
crc-crc24-fixed =
    fixes crc-crc24.ended _ (answer-set crc-crc24.ended) refl (λ κs. refl)
    (λ κs a r e. r) (λ κs a y. (y, (tt, tt))) (λ κs a r ws. refl)

pub header-header-is-valid-fixed : Fixed header-header-is-valid.ended (answer _) (λ M 𝓤 𝓛. header-header-is-valid.clauses 𝓛) (λ M 𝓤 𝓛. header-header-is-valid.spec 𝓛)
header-header-is-valid-fixed =
    fixes header-header-is-valid.ended _ (answer-set header-header-is-valid.ended) refl (λ κs. refl)
    (λ κs a r e. told r) (λ κs a y. (untold y, (tt, (tt, (tt, tt))))) (λ κs a r ws. ap (λ x. (x, ws)) (told_back r))

pub header-address-kind-fixed : Fixed header-address-kind.ended (answer _) (λ M 𝓤 𝓛. header-address-kind.clauses 𝓛) (λ M 𝓤 𝓛. header-address-kind.spec 𝓛)
header-address-kind-fixed =
    fixes header-address-kind.ended _ (answer-set header-address-kind.ended) refl (λ κs. refl)
    (λ κs a r e. r) (λ κs a y. (y, (tt, tt))) (λ κs a r ws. refl)

pub message-ModeSMessage-short-fixed : Fixed message-ModeSMessage-short.ended (answer _) (λ M 𝓤 𝓛. message-ModeSMessage-short.clauses 𝓛) (λ M 𝓤 𝓛. message-ModeSMessage-short.spec 𝓛)
message-ModeSMessage-short-fixed =
    fixes message-ModeSMessage-short.ended _ (answer-set message-ModeSMessage-short.ended) refl (λ κs. refl)
    (λ κs a r e. r) (λ κs a y. (y, (tt, tt))) (λ κs a r ws. refl)

pub message-ModeSMessage-long-fixed : Fixed message-ModeSMessage-long.ended (answer _) (λ M 𝓤 𝓛. message-ModeSMessage-long.clauses 𝓛) (λ M 𝓤 𝓛. message-ModeSMessage-long.spec 𝓛)
message-ModeSMessage-long-fixed =
    fixes message-ModeSMessage-long.ended _ (answer-set message-ModeSMessage-long.ended) refl (λ κs. refl)
    (λ κs a r e. r) (λ κs a y. (y, (tt, tt))) (λ κs a r ws. refl)

pub message-ModeSMessage-num-bits-fixed : Fixed message-ModeSMessage-num-bits.ended (answer _) (λ M 𝓤 𝓛. message-ModeSMessage-num-bits.clauses 𝓛) (λ M 𝓤 𝓛. message-ModeSMessage-num-bits.spec 𝓛)
message-ModeSMessage-num-bits-fixed =
    fixes message-ModeSMessage-num-bits.ended _ (answer-set message-ModeSMessage-num-bits.ended) refl (λ κs. refl)
    (λ κs a r e. r) (λ κs a y. (y, (tt, tt))) (λ κs a r ws. refl)

pub repair-correct-message-bit-errors-fixed : Fixed repair-correct-message-bit-errors.ended (answer _) (λ M 𝓤 𝓛. repair-correct-message-bit-errors.clauses 𝓛) (λ M 𝓤 𝓛. repair-correct-message-bit-errors.spec 𝓛)
repair-correct-message-bit-errors-fixed =
    fixes repair-correct-message-bit-errors.ended _ (answer-set repair-correct-message-bit-errors.ended) refl (λ κs. refl)
    (λ κs a r e. (told_number r, e.0.now)) (λ κs a y. (unnumbered y.0, (y.1, (tt, tt)))) (λ κs a r ws. ap (λ x. (x, ws)) (number_back r))
