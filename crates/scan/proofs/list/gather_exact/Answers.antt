-- `scan::list::gather_exact` meets its contract: the marked places are the exact ones. Assumes nothing.
use Rattle.std.proofs.Common.{length, sym, ap, ◌∙◌, arith}
use Rattle.scan.proofs.Listing.{marks_of_law, exact_kept, none_kept}
use Rattle.scan.proofs.list.gather_exact.Goals as goal

pub returns-then-any-eq0 : goal.returns-then-any-eq0
returns-then-any-eq0 c =
    let a = c.args in
    let k = exact_kept a.lead a.m a.coherent.now a.noncoherent.now a.crcs.now a.others.now (rw c.requires.6 at c.mark_exact.ensures) in
    let e = sym (none_kept a.m _ c.any.ensures c.if-any-eq0.true) ∙ k in
    (omega arith, ap length e, e)

pub gather-requires : goal.gather-requires
gather-requires c = (c.requires.1, marks_of_law _ _ _ _ _ _ (rw c.requires.6 at c.mark_exact.ensures), c.requires.7)

pub returns : goal.returns
returns c =
    let a = c.args in
    let g = c.gather.ensures in
    let e = exact_kept a.lead a.m a.coherent.now a.noncoherent.now a.crcs.now a.others.now (rw c.requires.6 at c.mark_exact.ensures) in
    (g.0, g.1 ∙ ap length e, g.2 ∙ e)
