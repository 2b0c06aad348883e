-- `receiver::decode::both` meets its contract. Assumes nothing.
use mathlib.Core.Path.{ap, ◌∙◌}
use Rattle.search.specs.Short.{short_answer}
use Rattle.receiver.proofs.Deciding.{both_are}
use Rattle.receiver.proofs.decode.both.Goals as goal

pub returns : goal.returns
returns c =
    let x = c.both_in-both.ensures in
    both_are x.0 (c.narrow_answer.ensures ∙ ap short_answer x.1)
