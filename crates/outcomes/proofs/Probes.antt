-- Each public contract of probes fixes its outcome. Written by tools/outcomes; the prover trusts nothing of it.
-- Assumes nothing.
use mathlib.Core.Path.{refl}
use Rattle.outcomes.specs.Outcome.{Fixed, answer}
use Rattle.outcomes.proofs.Law.{fixes, answer-set}
use Rattle.probes.specs.contracts.bits.probe_remainder as bits-probe-remainder
use Rattle.probes.specs.contracts.bits.probe_distance as bits-probe-distance
use Rattle.probes.specs.contracts.bits.probe_header as bits-probe-header
use Rattle.probes.specs.contracts.bits.FlatNumberFromResultU32Refusal.from as bits-FlatNumberFromResultU32Refusal-from
use Rattle.probes.specs.contracts.bits.FlatNumberFromResultBoolRefusal.from as bits-FlatNumberFromResultBoolRefusal-from
use Rattle.probes.specs.contracts.samples.probe_symbols as samples-probe-symbols
use Rattle.probes.specs.contracts.samples.probe_streams as samples-probe-streams
use Rattle.probes.specs.contracts.samples.probe_undecided as samples-probe-undecided
use Rattle.probes.specs.contracts.samples.probe_power as samples-probe-power
use Rattle.probes.specs.contracts.samples.probe_noise_power as samples-probe-noise-power
use Rattle.probes.specs.contracts.samples.probe_cn0 as samples-probe-cn0
use Rattle.probes.specs.contracts.samples.probe_parabola as samples-probe-parabola
use Rattle.probes.specs.contracts.samples.FlatPowerFromResultF32Refusal.from as samples-FlatPowerFromResultF32Refusal-from
use Rattle.probes.specs.contracts.tables.probe_single as tables-probe-single
use Rattle.probes.specs.contracts.tables.probe_double as tables-probe-double
use Rattle.probes.specs.contracts.tables.probe_codes as tables-probe-codes
use Rattle.probes.specs.contracts.tables.FlatFoundFromFound.from as tables-FlatFoundFromFound-from

pub bits-probe-remainder-fixed : Fixed bits-probe-remainder.ended (answer _) (λ M 𝓤 𝓛. bits-probe-remainder.clauses 𝓛) (λ M 𝓤 𝓛. bits-probe-remainder.spec 𝓛)
bits-probe-remainder-fixed =
    fixes bits-probe-remainder.ended _ (answer-set bits-probe-remainder.ended) refl (λ κs. refl)
    (λ κs a r e. r) (λ κs a y. (y, (tt, (tt, tt)))) (λ κs a r ws. refl)

pub bits-probe-distance-fixed : Fixed bits-probe-distance.ended (answer _) (λ M 𝓤 𝓛. bits-probe-distance.clauses 𝓛) (λ M 𝓤 𝓛. bits-probe-distance.spec 𝓛)
bits-probe-distance-fixed =
    fixes bits-probe-distance.ended _ (answer-set bits-probe-distance.ended) refl (λ κs. refl)
    (λ κs a r e. r) (λ κs a y. (y, (tt, (tt, (tt, tt))))) (λ κs a r ws. refl)

pub bits-probe-header-fixed : Fixed bits-probe-header.ended (answer _) (λ M 𝓤 𝓛. bits-probe-header.clauses 𝓛) (λ M 𝓤 𝓛. bits-probe-header.spec 𝓛)
bits-probe-header-fixed =
    fixes bits-probe-header.ended _ (answer-set bits-probe-header.ended) refl (λ κs. refl)
    (λ κs a r e. r) (λ κs a y. (y, (tt, (tt, (tt, (tt, (tt, tt))))))) (λ κs a r ws. refl)

pub bits-FlatNumberFromResultU32Refusal-from-fixed : Fixed bits-FlatNumberFromResultU32Refusal-from.ended (answer _) (λ M 𝓤 𝓛. bits-FlatNumberFromResultU32Refusal-from.clauses 𝓛) (λ M 𝓤 𝓛. bits-FlatNumberFromResultU32Refusal-from.spec 𝓛)
bits-FlatNumberFromResultU32Refusal-from-fixed =
    fixes bits-FlatNumberFromResultU32Refusal-from.ended _ (answer-set bits-FlatNumberFromResultU32Refusal-from.ended) refl (λ κs. refl)
    (λ κs a r e. r) (λ κs a y. (y, (tt, tt))) (λ κs a r ws. refl)

pub bits-FlatNumberFromResultBoolRefusal-from-fixed : Fixed bits-FlatNumberFromResultBoolRefusal-from.ended (answer _) (λ M 𝓤 𝓛. bits-FlatNumberFromResultBoolRefusal-from.clauses 𝓛) (λ M 𝓤 𝓛. bits-FlatNumberFromResultBoolRefusal-from.spec 𝓛)
bits-FlatNumberFromResultBoolRefusal-from-fixed =
    fixes bits-FlatNumberFromResultBoolRefusal-from.ended _ (answer-set bits-FlatNumberFromResultBoolRefusal-from.ended) refl (λ κs. refl)
    (λ κs a r e. r) (λ κs a y. (y, (tt, tt))) (λ κs a r ws. refl)

pub samples-probe-symbols-fixed : Fixed samples-probe-symbols.ended (answer _) (λ M 𝓤 𝓛. samples-probe-symbols.clauses 𝓛) (λ M 𝓤 𝓛. samples-probe-symbols.spec 𝓛)
samples-probe-symbols-fixed =
    fixes samples-probe-symbols.ended _ (answer-set samples-probe-symbols.ended) refl (λ κs. refl)
    (λ κs a r e. (r, e.1.0.now)) (λ κs a y. (y.0, (tt, (y.1, tt)))) (λ κs a r ws. refl)

pub samples-probe-streams-fixed : Fixed samples-probe-streams.ended (answer _) (λ M 𝓤 𝓛. samples-probe-streams.clauses 𝓛) (λ M 𝓤 𝓛. samples-probe-streams.spec 𝓛)
samples-probe-streams-fixed =
    fixes samples-probe-streams.ended _ (answer-set samples-probe-streams.ended) refl (λ κs. refl)
    (λ κs a r e. (r, e.1.0.now, e.1.1.0.now, e.1.1.1.0.now, e.1.1.1.1.0.now)) (λ κs a y. (y.0, (tt, (y.1, (y.2, (y.3, (y.4, tt))))))) (λ κs a r ws. refl)

pub samples-probe-undecided-fixed : Fixed samples-probe-undecided.ended (answer _) (λ M 𝓤 𝓛. samples-probe-undecided.clauses 𝓛) (λ M 𝓤 𝓛. samples-probe-undecided.spec 𝓛)
samples-probe-undecided-fixed =
    fixes samples-probe-undecided.ended _ (answer-set samples-probe-undecided.ended) refl (λ κs. refl)
    (λ κs a r e. r) (λ κs a y. (y, (tt, (tt, tt)))) (λ κs a r ws. refl)

pub samples-probe-power-fixed : Fixed samples-probe-power.ended (answer _) (λ M 𝓤 𝓛. samples-probe-power.clauses 𝓛) (λ M 𝓤 𝓛. samples-probe-power.spec 𝓛)
samples-probe-power-fixed =
    fixes samples-probe-power.ended _ (answer-set samples-probe-power.ended) refl (λ κs. refl)
    (λ κs a r e. r) (λ κs a y. (y, (tt, (tt, tt)))) (λ κs a r ws. refl)

pub samples-probe-noise-power-fixed : Fixed samples-probe-noise-power.ended (answer _) (λ M 𝓤 𝓛. samples-probe-noise-power.clauses 𝓛) (λ M 𝓤 𝓛. samples-probe-noise-power.spec 𝓛)
samples-probe-noise-power-fixed =
    fixes samples-probe-noise-power.ended _ (answer-set samples-probe-noise-power.ended) refl (λ κs. refl)
    (λ κs a r e. r) (λ κs a y. (y, (tt, (tt, tt)))) (λ κs a r ws. refl)

pub samples-probe-cn0-fixed : Fixed samples-probe-cn0.ended (answer _) (λ M 𝓤 𝓛. samples-probe-cn0.clauses 𝓛) (λ M 𝓤 𝓛. samples-probe-cn0.spec 𝓛)
samples-probe-cn0-fixed =
    fixes samples-probe-cn0.ended _ (answer-set samples-probe-cn0.ended) refl (λ κs. refl)
    (λ κs a r e. r) (λ κs a y. (y, (tt, (tt, tt)))) (λ κs a r ws. refl)

pub samples-probe-parabola-fixed : Fixed samples-probe-parabola.ended (answer _) (λ M 𝓤 𝓛. samples-probe-parabola.clauses 𝓛) (λ M 𝓤 𝓛. samples-probe-parabola.spec 𝓛)
samples-probe-parabola-fixed =
    fixes samples-probe-parabola.ended _ (answer-set samples-probe-parabola.ended) refl (λ κs. refl)
    (λ κs a r e. r) (λ κs a y. (y, (tt, (tt, (tt, tt))))) (λ κs a r ws. refl)

pub samples-FlatPowerFromResultF32Refusal-from-fixed : Fixed samples-FlatPowerFromResultF32Refusal-from.ended (answer _) (λ M 𝓤 𝓛. samples-FlatPowerFromResultF32Refusal-from.clauses 𝓛) (λ M 𝓤 𝓛. samples-FlatPowerFromResultF32Refusal-from.spec 𝓛)
samples-FlatPowerFromResultF32Refusal-from-fixed =
    fixes samples-FlatPowerFromResultF32Refusal-from.ended _ (answer-set samples-FlatPowerFromResultF32Refusal-from.ended) refl (λ κs. refl)
    (λ κs a r e. r) (λ κs a y. (y, (tt, tt))) (λ κs a r ws. refl)

pub tables-probe-single-fixed : Fixed tables-probe-single.ended (answer _) (λ M 𝓤 𝓛. tables-probe-single.clauses 𝓛) (λ M 𝓤 𝓛. tables-probe-single.spec 𝓛)
tables-probe-single-fixed =
    fixes tables-probe-single.ended _ (answer-set tables-probe-single.ended) refl (λ κs. refl)
    (λ κs a r e. r) (λ κs a y. (y, (tt, tt))) (λ κs a r ws. refl)

pub tables-probe-double-fixed : Fixed tables-probe-double.ended (answer _) (λ M 𝓤 𝓛. tables-probe-double.clauses 𝓛) (λ M 𝓤 𝓛. tables-probe-double.spec 𝓛)
tables-probe-double-fixed =
    fixes tables-probe-double.ended _ (answer-set tables-probe-double.ended) refl (λ κs. refl)
    (λ κs a r e. r) (λ κs a y. (y, (tt, tt))) (λ κs a r ws. refl)

pub tables-probe-codes-fixed : Fixed tables-probe-codes.ended (answer _) (λ M 𝓤 𝓛. tables-probe-codes.clauses 𝓛) (λ M 𝓤 𝓛. tables-probe-codes.spec 𝓛)
tables-probe-codes-fixed =
    fixes tables-probe-codes.ended _ (answer-set tables-probe-codes.ended) refl (λ κs. refl)
    (λ κs a r e. (r, e.1.0.now)) (λ κs a y. (y.0, (tt, (y.1, tt)))) (λ κs a r ws. refl)

pub tables-FlatFoundFromFound-from-fixed : Fixed tables-FlatFoundFromFound-from.ended (answer _) (λ M 𝓤 𝓛. tables-FlatFoundFromFound-from.clauses 𝓛) (λ M 𝓤 𝓛. tables-FlatFoundFromFound-from.spec 𝓛)
tables-FlatFoundFromFound-from-fixed =
    fixes tables-FlatFoundFromFound-from.ended _ (answer-set tables-FlatFoundFromFound-from.ended) refl (λ κs. refl)
    (λ κs a r e. r) (λ κs a y. (y, (tt, tt))) (λ κs a r ws. refl)
