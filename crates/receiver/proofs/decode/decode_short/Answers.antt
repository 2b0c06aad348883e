-- `receiver::decode::decode_short` meets its contract. Assumes nothing.
use mathlib.Core.Path.{refl, ap, ◌∙◌}
use Rattle.search.specs.Kinds.{short}
use Rattle.search.specs.Answers.{refused_answer}
use Rattle.search.specs.Short.{short_answer}
use Rattle.receiver.specs.Inner.{cut_answer}
use Rattle.receiver.proofs.EitherKind.{right_short}
use Rattle.receiver.proofs.Deciding.{decode_taken, decode_refused, answer_asks, decoded_short}
use Rattle.receiver.proofs.Widening.{refused_short}
use Rattle.receiver.proofs.decode.decode_short.Goals as goal

pub returns-in-Err : goal.returns-in-Err
returns-in-Err c =
    let a = c.args in
    c.narrow_answer.ensures
    ∙ ap short_answer
    (decode_refused short a.samples.now a.s a.index c.in-Err.refusal c.in-Err.ensures (ap cut_answer c.refused.ensures ∙ refused_short _ ∙ ap (refused_answer short) c.number.ensures))

pub best_of_short-read-requires : goal.best_of_short-read-requires
best_of_short-read-requires c =
    let a = c.args in
    let t = decode_taken short a.samples.now a.s a.index c.in_default.ensures in
    (t.0.whole, t.0.settings, refl)

pub answer_of-requires : goal.answer_of-requires
answer_of-requires c =
    let a = c.args in
    let x = c.best_of_short-read.ensures in
    answer_asks a.samples.now a.s a.index c.in_default.ensures x.1 short right_short x.0

pub returns : goal.returns
returns c =
    let a = c.args in
    let x = c.best_of_short-read.ensures in
    c.narrow_answer-2.ensures
    ∙ ap short_answer (decoded_short a.samples.now a.s a.index c.in_default.ensures x.1 x.0 c.answer_of.ensures)
