-- Each public contract of annex10 fixes its outcome. Written by tools/outcomes; the prover trusts nothing of it.
-- Assumes nothing.
use mathlib.Core.Path.{refl}
use Rattle.outcomes.specs.Outcome.{Fixed, answer}
use Rattle.outcomes.proofs.Law.{fixes, answer-set}
use Rattle.annex10.specs.contracts.MessageKind.bytes as MessageKind-bytes
use Rattle.annex10.specs.contracts.MessageKind.most as MessageKind-most
use Rattle.annex10.specs.contracts.is_message as annex10-is-message
use Rattle.annex10.specs.contracts.repairs_of as annex10-repairs-of
use Rattle.annex10.specs.contracts.lie_inside as annex10-lie-inside
use Rattle.annex10.specs.contracts.codes.code_of as codes-code-of
use Rattle.annex10.specs.contracts.division.bring_byte as division-bring-byte

pub MessageKind-bytes-fixed : Fixed MessageKind-bytes.ended (answer _) (λ M 𝓤 𝓛. MessageKind-bytes.clauses 𝓛) (λ M 𝓤 𝓛. MessageKind-bytes.spec 𝓛)
MessageKind-bytes-fixed =
    fixes MessageKind-bytes.ended _ (answer-set MessageKind-bytes.ended) refl (λ κs. refl)
    (λ κs a r e. r) (λ κs a y. (y, (tt, tt))) (λ κs a r ws. refl)

pub MessageKind-most-fixed : Fixed MessageKind-most.ended (answer _) (λ M 𝓤 𝓛. MessageKind-most.clauses 𝓛) (λ M 𝓤 𝓛. MessageKind-most.spec 𝓛)
MessageKind-most-fixed =
    fixes MessageKind-most.ended _ (answer-set MessageKind-most.ended) refl (λ κs. refl)
    (λ κs a r e. r) (λ κs a y. (y, (tt, tt))) (λ κs a r ws. refl)

pub annex10-is-message-fixed : Fixed annex10-is-message.ended (answer _) (λ M 𝓤 𝓛. annex10-is-message.clauses 𝓛) (λ M 𝓤 𝓛. annex10-is-message.spec 𝓛)
annex10-is-message-fixed =
    fixes annex10-is-message.ended _ (answer-set annex10-is-message.ended) refl (λ κs. refl)
    (λ κs a r e. r) (λ κs a y. (y, (tt, tt))) (λ κs a r ws. refl)

pub annex10-repairs-of-fixed : Fixed annex10-repairs-of.ended (answer _) (λ M 𝓤 𝓛. annex10-repairs-of.clauses 𝓛) (λ M 𝓤 𝓛. annex10-repairs-of.spec 𝓛)
annex10-repairs-of-fixed =
    fixes annex10-repairs-of.ended _ (answer-set annex10-repairs-of.ended) refl (λ κs. refl)
    (λ κs a r e. r) (λ κs a y. (y, (tt, tt))) (λ κs a r ws. refl)

pub annex10-lie-inside-fixed : Fixed annex10-lie-inside.ended (answer _) (λ M 𝓤 𝓛. annex10-lie-inside.clauses 𝓛) (λ M 𝓤 𝓛. annex10-lie-inside.spec 𝓛)
annex10-lie-inside-fixed =
    fixes annex10-lie-inside.ended _ (answer-set annex10-lie-inside.ended) refl (λ κs. refl)
    (λ κs a r e. r) (λ κs a y. (y, (tt, (tt, tt)))) (λ κs a r ws. refl)

pub codes-code-of-fixed : Fixed codes-code-of.ended (answer _) (λ M 𝓤 𝓛. codes-code-of.clauses 𝓛) (λ M 𝓤 𝓛. codes-code-of.spec 𝓛)
codes-code-of-fixed =
    fixes codes-code-of.ended _ (answer-set codes-code-of.ended) refl (λ κs. refl)
    (λ κs a r e. r) (λ κs a y. (y, (tt, tt))) (λ κs a r ws. refl)

pub division-bring-byte-fixed : Fixed division-bring-byte.ended (answer _) (λ M 𝓤 𝓛. division-bring-byte.clauses 𝓛) (λ M 𝓤 𝓛. division-bring-byte.spec 𝓛)
division-bring-byte-fixed =
    fixes division-bring-byte.ended _ (answer-set division-bring-byte.ended) refl (λ κs. refl)
    (λ κs a r e. r) (λ κs a y. (y, (tt, (tt, tt)))) (λ κs a r ws. refl)
