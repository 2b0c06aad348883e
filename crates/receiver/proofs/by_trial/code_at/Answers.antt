-- `receiver::by_trial::code_at` meets its contract: the repair refuses nothing. Assumes nothing.
use mathlib.Core.Path.{ap, ◌∙◌}
use mathlib.Core.List.{List}
use Prim.Native.Nat.{ℕ, ◌+◌, ◌*◌}
use native.Mathlib.Omega.{arith}
use lib.ListN.{length}
use Rattle.annex10.specs.Mend.{repair_of}
use Rattle.place.proofs.Within.{listed_gives}
use Rattle.streams.specs.Streams.{message_at}
use Rattle.streams.proofs.Reading.{message_length_law}
use Rattle.scan.specs.Lanes.{lane_bytes}
use Rattle.receiver.specs.Inner.{kind_of}
use Rattle.receiver.proofs.EitherKind.{right}
use Rattle.receiver.proofs.ByLane.{lane_length}
use Rattle.receiver.proofs.ByTrial.{code_tried}
use Rattle.receiver.proofs.by_trial.code_at.Goals as goal

pub overflow_mul-place : goal.overflow_mul-place
overflow_mul-place c =
    let l = listed_gives (kind_of c.args.kind).last c.args.place c.requires.1 in
    omega (arith, l.phase, l.symbol)

pub overflow_add-place : goal.overflow_add-place
overflow_add-place c =
    let l = listed_gives (kind_of c.args.kind).last c.args.place c.requires.1 in
    omega (arith, l.phase, l.symbol)

pub lane_of-stream-requires : goal.lane_of-stream-requires
lane_of-stream-requires c =
    let l = listed_gives (kind_of c.args.kind).last c.args.place c.requires.1 in
    (c.requires.0, omega (arith, l.phase, l.symbol))

pub mend-requires : goal.mend-requires
mend-requires c =
    let l = listed_gives (kind_of c.args.kind).last c.args.place c.requires.1 in
    record { size = ap length c.lane_of-stream.ensures ∙ lane_length c.args.bits.now _; low = omega (arith, l.to, (right c.args.kind).last) }

pub returns : goal.returns
returns c =
    let k = kind_of c.args.kind in
    let p = c.args.place in
    let lane = 4 * p.symbol + p.phase in
    let e = c.mend.ensures ∙ ap (λ (x : List ℕ). repair_of k.bytes k.most c.args.level (message_at x k.bytes p.bit)) c.lane_of-stream.ensures in
    code_tried k.bytes k.most c.args.level (message_at (lane_bytes c.args.bits.now lane) k.bytes p.bit) (message_length_law (lane_bytes c.args.bits.now lane) k.bytes p.bit) c.requires.2
    c.mend.result e c.unwrap_or.ensures c.code_of.ensures
