-- Functions that answer alike: the two repairs of a message, and the two decodes of both kinds.
-- Assumes nothing.
use denote.Triple.Clauses.{Ended}
use Rattle.outcomes.specs.Outcome.{Clause, Contract, Sight, Fixed, answer}
use Rattle.outcomes.specs.Alike.{Alike}
use Rattle.outcomes.proofs.Repairs.{repairs-repair-fixed}
use Rattle.outcomes.proofs.Receiver.{decode-decode-both-fixed}
use Rattle.repairs.specs.contracts.repair as repairs-repair
use Rattle.slow.specs.contracts.repair_slowly as slow-repair-slowly
use Rattle.receiver.specs.contracts.decode.decode_both as decode-decode-both
use Rattle.receiver.specs.contracts.decode.decode_both_slowly as decode-decode-both-slowly

-- two functions with one contract, which fixes its outcome
one-contract : (T : Ended) (s : Sight T) (c : Clause T) (contract : Contract T) → Fixed T s c contract → Alike T s c c
one-contract T s c contract f = record { same = λ M 𝓤 𝓛 mem run κs a. (f.fixed M 𝓤 𝓛 mem run κs a).same }

pub repairs-alike : Alike repairs-repair.ended (answer _) (λ M 𝓤 𝓛. repairs-repair.clauses 𝓛) (λ M 𝓤 𝓛. slow-repair-slowly.clauses 𝓛)
repairs-alike = one-contract _ _ _ _ repairs-repair-fixed

pub decodes-alike : Alike decode-decode-both.ended (answer _) (λ M 𝓤 𝓛. decode-decode-both.clauses 𝓛) (λ M 𝓤 𝓛. decode-decode-both-slowly.clauses 𝓛)
decodes-alike = one-contract _ _ _ _ decode-decode-both-fixed
