-- `receiver::window::in_stages` meets its contract: what needs no repair is what the search finds. Assumes nothing.
use mathlib.Core.Path.{sym, ap, ◌∙◌}
use Prim.Native.Nat.{◌*◌}
use lib.ListN.{length, length-replicate}
use Rattle.search.specs.Choice.{best}
use Rattle.search.specs.Seen.{seen}
use Rattle.search.proofs.Staging.{at_level}
use Rattle.receiver.specs.Inner.{kind_of}
use Rattle.receiver.proofs.Deciding.{read_none}
use Rattle.receiver.proofs.Stages.{first_stage, only_stage}
use Rattle.receiver.proofs.window.in_stages.Goals as goal
use Rattle.receiver.proofs.window.in_stages.Goals.{then-is_some-via-then-is_some, then-is_some-via-else-is_some+then-s-eq0}

pub returns-then-is_some : goal.returns-then-is_some
returns-then-is_some c =
    let k = kind_of c.args.scan.now.kind in
    let w = seen k c.args.scan.now.samples.now in
    let e = c.exact_best-exact.ensures.0 in
    elim c.then-is_some.branch [
      | then-is_some-via-then-is_some v ↦ first_stage k c.args.s w e (sym c.is_some.ensures ∙ v.if-is_some.true)
      | then-is_some-via-else-is_some+then-s-eq0 v ↦ only_stage k c.args.s w v.if-s-eq0.true e
    ]

pub repaired_best-requires : goal.repaired_best-requires
repaired_best-requires c =
    let a = c.args in
    let k = kind_of a.scan.now.kind in (
      c.requires.0,
      read_none k (best k (at_level 0 a.s) (seen k a.scan.now.samples.now)) c.exact_best-exact.ensures.0 (sym c.is_some.ensures ∙ c.if-is_some.false),
      c.exact_best-exact.ensures.1,
      ap length c.requires.2 ∙ length-replicate (16 * k.last) 0,
    )
