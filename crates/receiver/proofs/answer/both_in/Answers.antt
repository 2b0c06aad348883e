-- `receiver::answer::both_in` meets its contract. Assumes nothing.
use mathlib.Core.Path.{ap, ◌∙◌}
use Rattle.search.specs.Answers.{refused_answer}
use Rattle.search.specs.Kinds.{long, short}
use Rattle.receiver.specs.Inner.{cut_answer}
use Rattle.receiver.proofs.EitherKind.{right_long, right_short}
use Rattle.receiver.proofs.Deciding.{decode_taken, decode_refused, answer_asks, decoded_long, decoded_short}
use Rattle.receiver.proofs.Widening.{refused_short}
use Rattle.receiver.proofs.answer.both_in.Goals as goal

pub returns-in-Err : goal.returns-in-Err
returns-in-Err c =
    let a = c.args in
    let e = c.refused-answer.ensures ∙ ap (refused_answer long) c.number.ensures in (
      decode_refused long a.samples.now a.s a.index c.in-Err.refusal c.in-Err.ensures e,
      decode_refused short a.samples.now a.s a.index c.in-Err.refusal c.in-Err.ensures (ap cut_answer e ∙ refused_short _),
    )

pub best_of_both-read-requires : goal.best_of_both-read-requires
best_of_both-read-requires c =
    let a = c.args in
    let t = decode_taken long a.samples.now a.s a.index c.in_default.ensures in
    (t.0.whole, t.0.settings, c.requires)

pub answer_of-requires : goal.answer_of-requires
answer_of-requires c =
    let a = c.args in
    let x = c.best_of_both-read.ensures in
    answer_asks a.samples.now a.s a.index c.in_default.ensures x.2 long right_long x.0

pub answer_of-requires-2 : goal.answer_of-requires-2
answer_of-requires-2 c =
    let a = c.args in
    let x = c.best_of_both-read.ensures in
    answer_asks a.samples.now a.s a.index c.in_default.ensures x.2 short right_short x.1

pub returns : goal.returns
returns c =
    let a = c.args in
    let e = c.in_default.ensures in
    let x = c.best_of_both-read.ensures in (
      decoded_long a.samples.now a.s a.index e x.2 x.0 c.answer_of.ensures,
      decoded_short a.samples.now a.s a.index e x.2 x.1 c.answer_of-2.ensures,
    )
