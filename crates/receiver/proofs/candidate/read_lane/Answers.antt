-- `receiver::candidate::read_lane` meets its contract: the trials by the first bytes, then what survives.
-- Assumes nothing.
use mathlib.Core.Path.{sym, ◌∙◌, subst}
use Prim.Native.Nat.{ℕ, ◌≤◌}
use native.Mathlib.Omega.{arith}
use Rattle.annex10.specs.Repair.{count}
use Rattle.scan.specs.Lanes.{lane_bytes}
use Rattle.receiver.specs.Inner.{kind_of, Known}
use Rattle.receiver.proofs.EitherKind.{right}
use Rattle.receiver.proofs.ByLane.{lane_reading}
use Rattle.receiver.proofs.Weighing.{most_level, reading_at_law, reading_taken, reading_few, read_pass, read_fail}
use Rattle.receiver.proofs.candidate.read_lane.Goals as goal

pub first_of-first-requires : goal.first_of-first-requires
first_of-first-requires c = (c.requires.2.first, omega (arith, c.requires.2.low, c.requires.2.ends, (right c.args.kind).low))

pub first_of-second-requires : goal.first_of-second-requires
first_of-second-requires c = (c.requires.2.second, omega (arith, c.requires.2.low, c.requires.2.ends, (right c.args.kind).low))

pub read_location-requires : goal.read_location-requires
read_location-requires c =
    let a = c.args in
    let k = kind_of a.kind in
    let first = lane_bytes a.coherent.now a.lane in
    let second = lane_bytes a.noncoherent.now a.lane in
    let level = c.level_of-level in
    let known = subst (λ (m : ℕ). Known k m first second a.place.bit a.c a.d a.apart) (sym level.ensures) c.requires.5 in
    let read = lane_reading k a.coherent.now a.noncoherent.now a.lane a.place.bit c.requires.2 (right a.kind) level.result a.place known c.first_of-first.ensures c.first_of-second.ensures c.try_six.ensures in
    let l = c.in-Pass.location in
    let t = sym read ∙ c.in-Pass.is in
    let e = reading_at_law k (right a.kind) a.samples.now a.row.now first second a.place _ t in
    let most : level.result ≤ k.most = rw level.ensures (most_level a.s.level k.most) in
    let z = reading_taken k (right a.kind) a.samples.now a.row.now first second a.place _ most c.requires.3 t in
    let few = subst (λ (m : ℕ). count l.repairs ≤ m) level.ensures (reading_few k (right a.kind) a.samples.now a.row.now first second a.place _ t) in
    (c.requires.0, c.requires.1, rw e c.requires.2, c.requires.4, z, few)

pub returns-in-Pass : goal.returns-in-Pass
returns-in-Pass c =
    let a = c.args in
    let k = kind_of a.kind in
    let first = lane_bytes a.coherent.now a.lane in
    let second = lane_bytes a.noncoherent.now a.lane in
    let level = c.level_of-level in
    let known = subst (λ (m : ℕ). Known k m first second a.place.bit a.c a.d a.apart) (sym level.ensures) c.requires.5 in
    let read = lane_reading k a.coherent.now a.noncoherent.now a.lane a.place.bit c.requires.2 (right a.kind) level.result a.place known c.first_of-first.ensures c.first_of-second.ensures c.try_six.ensures in
    let t = sym read ∙ c.in-Pass.is in
    read_pass k (right a.kind) a.samples.now a.row.now first second a.place a.s (rw level.ensures at t) c.read_location.ensures

pub returns-in-Fail : goal.returns-in-Fail
returns-in-Fail c =
    let a = c.args in
    let k = kind_of a.kind in
    let first = lane_bytes a.coherent.now a.lane in
    let second = lane_bytes a.noncoherent.now a.lane in
    let level = c.level_of-level in
    let known = subst (λ (m : ℕ). Known k m first second a.place.bit a.c a.d a.apart) (sym level.ensures) c.requires.5 in
    let read = lane_reading k a.coherent.now a.noncoherent.now a.lane a.place.bit c.requires.2 (right a.kind) level.result a.place known c.first_of-first.ensures c.first_of-second.ensures c.try_six.ensures in
    let t = sym read ∙ c.in-Fail.is in
    read_fail k (right a.kind) a.samples.now a.row.now first second a.place a.s (rw level.ensures at t)
