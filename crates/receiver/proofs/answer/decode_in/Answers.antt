-- `receiver::answer::decode_in` meets its contract. Assumes nothing.
use mathlib.Core.Path.{ap, ◌∙◌}
use Rattle.search.specs.Answers.{refused_answer}
use Rattle.search.specs.Kinds.{long}
use Rattle.receiver.proofs.EitherKind.{right_long}
use Rattle.receiver.proofs.Deciding.{decode_taken, decode_refused, answer_asks, decoded_long}
use Rattle.receiver.proofs.answer.decode_in.Goals as goal

pub returns-in-Err : goal.returns-in-Err
returns-in-Err c =
    let a = c.args in
    decode_refused long a.samples.now a.s a.index c.in-Err.refusal c.in-Err.ensures (c.refused.ensures ∙ ap (refused_answer long) c.number.ensures)

pub best_of-read-requires : goal.best_of-read-requires
best_of-read-requires c =
    let a = c.args in
    let t = decode_taken long a.samples.now a.s a.index c.in_default.ensures in
    (t.0.whole, t.0.settings, c.requires)

pub answer_of-requires : goal.answer_of-requires
answer_of-requires c =
    let a = c.args in
    let x = c.best_of-read.ensures in
    answer_asks a.samples.now a.s a.index c.in_default.ensures x.1 long right_long x.0

pub returns : goal.returns
returns c =
    let a = c.args in
    let x = c.best_of-read.ensures in
    decoded_long a.samples.now a.s a.index c.in_default.ensures x.1 x.0 c.answer_of.ensures
