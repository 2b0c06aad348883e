-- `receiver::decode::find_best_decode_candidate_short` meets its contract. Assumes nothing.
use mathlib.Core.Path.{refl, ap, ◌∙◌}
use Rattle.std.specs.Prelude as code
use Rattle.search.specs.Kinds.{short}
use Rattle.search.specs.declared.ShortCandidate.{ShortCandidate}
use Rattle.search.specs.Short.{short_survivor}
use Rattle.search.specs.Told.{short_survivor_told}
use Rattle.receiver.proofs.Deciding.{best_taken, best_done, best_fit}
use Rattle.receiver.proofs.Widening.{held_short}
use Rattle.receiver.proofs.decode.find_best_decode_candidate_short.Goals as goal

pub best_of_short-requires : goal.best_of_short-requires
best_of_short-requires c =
    let a = c.args in
    let t = best_taken short a.samples.now a.s c.in_ok-check_best.ensures in
    (t.whole, t.settings, refl)

pub returns : goal.returns
returns c =
    let a = c.args in
    ap (λ (x : code.Option ShortCandidate). short_survivor_told (code.Ok x)) c.narrow_held.ensures
    ∙ held_short _ (best_fit short a.s a.samples.now) c.best_of_short.ensures.0
    ∙ ap short_survivor (best_done short a.samples.now a.s c.in_ok-check_best.ensures refl)
