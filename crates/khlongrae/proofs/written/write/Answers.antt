-- `khlongrae::written::write` meets its contract. Assumes nothing.
use mathlib.Core.Path.{◌∙◌}
use Rattle.khlongrae.proofs.written.write.Goals as goal

pub returns : goal.returns
returns c = c.fill.ensures ∙ rw c.words_of.ensures
