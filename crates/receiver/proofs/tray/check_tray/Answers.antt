-- `receiver::tray::check_tray` meets its contract. Assumes nothing.
use mathlib.Core.Path.{sym, ◌∙◌}
use mathlib.Core.Logic.{inl, inr}
use Rattle.receiver.proofs.Traying.{none_fit, no_room, settings_left}
use Rattle.receiver.proofs.tray.check_tray.Goals as goal
use Rattle.receiver.proofs.tray.check_tray.Goals.{then-n-gt64-via-then-n-gt64, then-n-gt64-via-else-n-gt64+then-samples-n, then-n-gt64-via-else-n-gt64+else-samples-n+then-indices-n}

pub returns-then-n-gt64 : goal.returns-then-n-gt64
returns-then-n-gt64 c =
    let a = c.args in
    none_fit a.both a.n a.messages.now a.words.now a.floats.now a.samples.now a.s a.indices.now
    (elim c.then-n-gt64.branch [
      | then-n-gt64-via-then-n-gt64 w ↦ inl w.if-n-gt64.true
      | then-n-gt64-via-else-n-gt64+then-samples-n w ↦ inr (inl w.if-samples-n.true)
      | then-n-gt64-via-else-n-gt64+else-samples-n+then-indices-n w ↦ inr (inr w.if-indices-n.true)
    ])

pub returns-then-not-have_room : goal.returns-then-not-have_room
returns-then-not-have_room c =
    let a = c.args in
    no_room a.both a.n a.messages.now a.words.now a.floats.now a.samples.now a.s a.indices.now c.if-n-gt64.false c.if-samples-n.false c.if-indices-n.false
    (sym c.have_room.ensures ∙ c.if-not-have_room.true)

pub returns : goal.returns
returns c =
    let a = c.args in
    settings_left a.both a.n a.messages.now a.words.now a.floats.now a.samples.now a.s a.indices.now c.if-n-gt64.false c.if-samples-n.false c.if-indices-n.false
    (sym c.have_room.ensures ∙ c.if-not-have_room.false) c.check_settings.ensures
