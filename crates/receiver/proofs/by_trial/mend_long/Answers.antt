-- `receiver::by_trial::mend_long` meets its contract: the message is not refused. Assumes nothing.
use mathlib.Core.Path.{ap, ◌∙◌}
use Rattle.lists.proofs.Telling.{same_values, not_done}
use Rattle.annex10.specs.Mend.{repair_of}
use Rattle.streams.proofs.Reading.{extracted_done}
use Rattle.search.specs.Kinds.{long}
use Rattle.receiver.proofs.by_trial.mend_long.Goals as goal

pub returns-in_err-bytes : goal.returns-in_err-bytes
unfolding long
returns-in_err-bytes c = absurd (not_done (c.in_err-bytes.ensures ∙ extracted_done 14 c.args.stream.now c.args.bit c.requires.size c.requires.low))

pub returns : goal.returns
unfolding long
returns c =
    let e = same_values (c.in_ok-bytes.ensures ∙ extracted_done 14 c.args.stream.now c.args.bit c.requires.size c.requires.low) in
    c.repair_slowly.ensures ∙ ap (repair_of 14 2 c.args.level) e
