-- `receiver::decode::read_place_short` meets its contract. Assumes nothing.
use mathlib.Core.Path.{refl, ap, ◌∙◌}
use Rattle.std.specs.Prelude as code
use Rattle.search.specs.Kinds.{short}
use Rattle.search.specs.declared.ShortCandidate.{ShortCandidate}
use Rattle.search.specs.Short.{short_survivor}
use Rattle.search.specs.Told.{short_survivor_told}
use Rattle.receiver.proofs.Deciding.{read_taken, read_done, place_fit}
use Rattle.receiver.proofs.Widening.{held_short}
use Rattle.receiver.proofs.decode.read_place_short.Goals as goal

pub reading_at_short-requires : goal.reading_at_short-requires
reading_at_short-requires c =
    let a = c.args in
    let t = read_taken short a.samples.now a.s a.place c.in_ok-check_read.ensures in
    (t.0.whole, t.1, t.0.settings)

pub returns : goal.returns
returns c =
    let a = c.args in
    ap (λ (x : code.Option ShortCandidate). short_survivor_told (code.Ok x)) c.narrow_held.ensures
    ∙ held_short _ (place_fit short a.s a.samples.now a.place) c.reading_at_short.ensures
    ∙ ap short_survivor (read_done short a.samples.now a.s a.place c.in_ok-check_read.ensures refl)
