-- `receiver::candidate::read_location` meets its contract: a stream that nobody looks at plays no part.
-- Assumes nothing.
use mathlib.Core.Path.{◌≡◌, sym, ap, ◌∙◌}
use lib.Dec.{eqb}
use Rattle.annex10.specs.Repair.{count}
use Rattle.place.specs.declared.location.Location.{Location}
use Rattle.scan.specs.Lanes.{lane_bytes}
use Rattle.search.specs.declared.Candidate.{Candidate}
use Rattle.search.specs.Choice.{candidate}
use Rattle.receiver.specs.Inner.{kind_of, seen_at}
use Rattle.receiver.proofs.EitherKind.{right, twice_streams, twice_taken, twice_distance}
use Rattle.receiver.proofs.ByLane.{lane_streams}
use Rattle.receiver.proofs.Weighing.{survived}
use Rattle.receiver.proofs.candidate.read_location.Goals as goal

pub survives-requires : goal.survives-requires
unfolding candidate
survives-requires c =
    let a = c.args in
    let l = a.location in
    let first = c.compared_lane-compared in
    let second = c.named_lane-named in
    let streams = lane_streams (kind_of a.kind) a.coherent.now a.noncoherent.now a.lane l.place.bit c.requires.2 l.slicer (eqb (count l.repairs) 2) second.ensures first.ensures in
    let same : c.candidate_of.result.location ≡ l = ap (λ (x : Candidate). x.location) c.candidate_of.ensures in (
      λ q.
          let two : count l.repairs ≡ 2 = sym (ap (λ (x : Location). count x.repairs) same) ∙ q in (
            rw same (twice_streams a.kind a.s.level _ c.requires.5 first.result second.result l.place.bit streams two),
            rw same (twice_taken a.kind a.s.level _ c.requires.5 first.result second.result l.place.bit l c.requires.4 two),
          ),
      c.requires.3,
    )

pub returns : goal.returns
unfolding seen_at
returns c =
    let a = c.args in
    let l = a.location in
    let first = lane_bytes a.coherent.now a.lane in
    let second = lane_bytes a.noncoherent.now a.lane in
    let e = c.named_lane-named.ensures in
    let f = c.compared_lane-compared.ensures in
    survived (kind_of a.kind) (right a.kind) a.samples.now a.row.now first second a.s l
    (λ two. twice_distance a.kind a.s.level _ c.requires.5 first second l.place.bit two)
    (c.candidate_of.ensures ∙ rw (f, e)) (c.survives.ensures ∙ rw (f, e))
