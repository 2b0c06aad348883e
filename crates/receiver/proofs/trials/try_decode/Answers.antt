-- `receiver::trials::try_decode` meets its contract: a refusal, or what the six trials give with what clears the messages' own remainders.
-- Assumes nothing.
use mathlib.Core.Path.{refl, ◌∙◌, ap}
use mathlib.Core.List.{List}
use Prim.Native.Nat.{ℕ, ◌<◌}
use native.Mathlib.Omega.{arith}
use lib.ListN.{length}
use Rattle.lists.specs.Told.{done}
use Rattle.lists.proofs.Telling.{told_done}
use Rattle.annex10.specs.Any.{clearing_any}
use Rattle.streams.specs.Streams.{message_at}
use Rattle.streams.proofs.Reading.{message_length_law}
use Rattle.search.specs.Kinds.{long}
use Rattle.receiver.specs.Tries.{tried_at}
use Rattle.receiver.proofs.Answering.{try_opened}
use Rattle.receiver.proofs.Turns.{reading_first, any_finds}
use Rattle.receiver.proofs.trials.try_decode.Goals as goal

pub crc_at-c-requires : goal.crc_at-c-requires
crc_at-c-requires c = let t = try_opened _ _ _ _ c.in_ok-check_try.ensures refl in (t.size, t.low)

pub crc_at-d-requires : goal.crc_at-d-requires
crc_at-d-requires c = let t = try_opened _ _ _ _ c.in_ok-check_try.ensures refl in (t.other, t.low)

pub first_at-requires : goal.first_at-requires
first_at-requires c = let t = try_opened _ _ _ _ c.in_ok-check_try.ensures refl in (t.size, t.low)

pub first_at-requires-2 : goal.first_at-requires-2
first_at-requires-2 c = let t = try_opened _ _ _ _ c.in_ok-check_try.ensures refl in (t.other, t.low)

pub try_six-requires : goal.try_six-requires
try_six-requires c = ((any_finds 0 _ c.bit_errors.ensures).lies, (any_finds 0 _ c.bit_errors-2.ensures).lies)

pub returns : goal.returns
unfolding tried_at long
returns c =
    let a = c.args in
    let e = c.crc_at-c.ensures in
    let f = c.crc_at-d.ensures in
    let whole : (stream : List ℕ) → 0 < length (message_at stream 14 a.place.bit) = λ stream. rw (message_length_law stream 14 a.place.bit) (omega arith) in
    let t =
    reading_first long a.level a.place (message_at a.coherent.now 14 a.place.bit) (message_at a.noncoherent.now 14 a.place.bit)
    (whole a.coherent.now) (whole a.noncoherent.now) c.first_at.ensures c.first_at-2.ensures
    (any_finds _ _ (c.bit_errors.ensures ∙ ap (clearing_any 14) e)) (any_finds _ _ (c.bit_errors-2.ensures ∙ ap (clearing_any 14) f)) (rw (e, f)) c.try_six.ensures in
    ap done t ∙ told_done _ c.in_ok-check_try.ensures refl
