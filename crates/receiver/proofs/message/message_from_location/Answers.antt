-- `receiver::message::message_from_location` meets its contract: a long message fills the room, a short one has zeros behind it.
-- Assumes nothing.
use mathlib.Core.Path.{◌≡◌, ap, ◌∙◌, subst}
use mathlib.Core.List.{List, ◌++◌}
use Prim.Native.Nat.{ℕ}
use lib.ListN.{replicate}
use Rattle.annex10.specs.declared.MessageKind.{MessageKind}
use Rattle.mode_s.specs.declared.message.ModeSMessage.{ModeSMessage}
use Rattle.place.specs.Agrees.{location_number}
use Rattle.parts.specs.Part.{chosen}
use Rattle.search.specs.Kinds.{long, short}
use Rattle.receiver.specs.Inner.{Streams, kind_of}
use Rattle.receiver.proofs.Widening.{room_long, room_short}
use Rattle.receiver.proofs.message.message_from_location.Goals as goal

pub long_at-requires : goal.long_at-requires
unfolding long
long_at-requires c =
    let a = c.args in
    subst (λ (k : MessageKind). Streams (kind_of k) a.coherent.now a.noncoherent.now a.location.place.bit × (location_number (kind_of k).bytes a.location ≡ 0)) c.in-Long.is c.requires

pub short_at-requires : goal.short_at-requires
unfolding short
short_at-requires c =
    let a = c.args in
    subst (λ (k : MessageKind). Streams (kind_of k) a.coherent.now a.noncoherent.now a.location.place.bit × (location_number (kind_of k).bytes a.location ≡ 0)) c.in-Short.is c.requires

pub returns-in-Long : goal.returns-in-Long
returns-in-Long c = let a = c.args in room_long a.kind (chosen a.location.slicer a.coherent.now a.noncoherent.now) a.location.place.bit a.location.repairs c.in-Long.is c.long_at.ensures

pub returns-in-Short : goal.returns-in-Short
returns-in-Short c =
    let a = c.args in
    room_short a.kind (chosen a.location.slicer a.coherent.now a.noncoherent.now) a.location.place.bit a.location.repairs c.in-Short.is
    (ap (λ (m : ModeSMessage). m.bytes) c.short.ensures ∙ ap (λ (b : List ℕ). b ++ replicate 7 0) c.short_at.ensures)
