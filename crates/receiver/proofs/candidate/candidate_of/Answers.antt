-- `receiver::candidate::candidate_of` meets its contract: of the message's room the bytes that count go on.
-- Assumes nothing.
use mathlib.Core.Path.{◌≡◌, sym, ap, ◌∙◌}
use native.Mathlib.Omega.{arith}
use lib.ListN.{length}
use Rattle.parts.specs.Part.{chosen}
use Rattle.powers.specs.declared.both.Powers.{Powers}
use Rattle.receiver.specs.Inner.{kind_of}
use Rattle.receiver.proofs.EitherKind.{right}
use Rattle.receiver.proofs.Weighing.{candidate_is}
use Rattle.receiver.proofs.Widening.{shown, shown_length}
use borrow.Author.Rules.{rules}
use Rattle.receiver.proofs.candidate.candidate_of.Goals as goal

pub slice_bounds-message-end : goal.slice_bounds-message-end
slice_bounds-message-end c =
    let l : length c.message_from_location-message.result ≡ 14 = search rules in
    omega (arith, l, c.bytes_of.ensures, (right c.args.kind).high)

pub slice_bounds-both_powers-end : goal.slice_bounds-both_powers-end
slice_bounds-both_powers-end c =
    let a = c.args in
    c.bytes_of.ensures
    ∙ sym (shown_length (kind_of a.kind) (chosen a.location.slicer a.coherent.now a.noncoherent.now) a.location.place.bit a.location.repairs c.bytes_of.ensures c.message_from_location-message.ensures)

pub both_powers-powers-requires : goal.both_powers-powers-requires
both_powers-powers-requires c =
    let a = c.args in
    let e = shown_length (kind_of a.kind) (chosen a.location.slicer a.coherent.now a.noncoherent.now) a.location.place.bit a.location.repairs c.bytes_of.ensures c.message_from_location-message.ensures in
    (c.requires.0, c.requires.1, c.requires.3, e)

pub returns : goal.returns
returns c =
    let a = c.args in
    let p = c.both_powers-powers.ensures in
    let e = shown (kind_of a.kind) (chosen a.location.slicer a.coherent.now a.noncoherent.now) a.location.place.bit a.location.repairs c.bytes_of.ensures c.message_from_location-message.ensures in
    candidate_is (kind_of a.kind) (right a.kind) a.samples.now a.row.now a.coherent.now a.noncoherent.now a.location
    e (c.message_from_location-message.ensures ∙ rw (← e)) (ap (λ (x : Powers). x.prompt) p) (ap (λ (x : Powers). x.noise) p) c.estimate_cn0.ensures
