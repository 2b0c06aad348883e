-- `khlongrae::header::khlongrae_header_short` meets its contract: the counted positions, and then the check. Assumes nothing.
use mathlib.Core.Path.{ap, ◌∙◌}
use native.Mathlib.Omega.{arith}
use borrow.Author.Rules.{rules}
use Rattle.search.specs.Kinds.{short}
use Rattle.khlongrae.specs.Headers.{flat_header}
use Rattle.khlongrae.proofs.Heads.{header_checked}
use Rattle.khlongrae.proofs.header.khlongrae_header_short.Goals as goal

pub returns : goal.returns
unfolding short
returns c = c.into.ensures ∙ ap flat_header (header_checked short _ _ _ _ _ _ (omega arith) c.counted_repairs.ensures (search rules))
