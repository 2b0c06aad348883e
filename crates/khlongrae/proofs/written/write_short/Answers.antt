-- `khlongrae::written::write_short` meets its contract. Assumes nothing.
use mathlib.Core.Path.{◌∙◌}
use Rattle.khlongrae.proofs.written.write_short.Goals as goal

pub returns : goal.returns
returns c = c.fill.ensures ∙ rw c.words_of.ensures
