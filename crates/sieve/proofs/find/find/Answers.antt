-- `sieve::find::find` meets its contract: what is told for what is asked is what clears. Assumes nothing.
use Rattle.std.proofs.Common.{◌*◌, arith}
use Rattle.annex10.specs.Length.{message_bytes}
use Rattle.annex10.proofs.Length.{kind_small}
use Rattle.sieve.specs.InnerLent.{asked_by}
use Rattle.sieve.proofs.Picking.{told_front, told_by, all_kept, none_kept}
use Rattle.sieve.proofs.find.find.Goals as goal

pub returns-then-count-eq0 : goal.returns-then-count-eq0
returns-then-count-eq0 c =
    let a = c.args in
    none_kept (message_bytes a.kind) (kind_small a.kind) a.level (asked_by a.lent a.level a.crcs.now) (asked_by a.lent a.level a.others.now) _ _ _ _ c.sift-count.ensures _ _ c.if-count-eq0.true

pub returns : goal.returns
returns c =
    let a = c.args in
    let w = c.sift-count.ensures in
    let b = kind_small a.kind in
    let xs = asked_by a.lent a.level a.crcs.now in
    let ys = asked_by a.lent a.level a.others.now in
    all_kept (message_bytes a.kind) b a.level xs ys _ _ _ _ w _ _ _ _ _ _
    (told_by (message_bytes a.kind) a.level _ xs ys _ _ _ _ b w (told_front (message_bytes a.kind) a.level (2 * c.sift-count.result) _ _ _ (omega (arith, w.sizes, w.few)) c.tell.ensures)) c.keep.ensures
