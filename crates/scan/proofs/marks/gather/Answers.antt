-- `scan::marks::gather` meets its contract. The loops: the places before this one are listed. Assumes nothing.
use Rattle.std.proofs.Common.{◌≡◌, ◌+◌, ◌*◌, ◌/◌, ◌%◌, refl, ap, ◌∙◌, arith, length-set}
use Rattle.scan.specs.Sieve.{kept}
use Rattle.scan.specs.Inner.{marked}
use Rattle.scan.proofs.Keeping.{kept_more}
use Rattle.scan.proofs.Listing.{mark_is}
use Rattle.scan.proofs.marks.gather.Goals as goal

pub loop-o-init : goal.loop-o-init
unfolding kept
loop-o-init c = (omega arith, omega arith, c.requires.2, refl)

pub loop-k-preserved : goal.loop-k-preserved
loop-k-preserved c =
    let a = c.args in
    let l = c.loop-k in
    let o = c.loop-o.o in
    let t = c.loop-k-test.true in
    let u = c.loop-o-test.true in
    let w = c.requires.1 in
    let e = mark_is (8 * a.m) a.marks.now w o l.k t in
    let n : 8 * o + l.k + 1 ≡ 8 * o + (l.k + 1) = omega arith in (
      omega arith,
      omega (arith, w.each (8 * o + 4 * (l.k % 2) + l.k / 2), l.invariant.1),
      length-set l.places l.count (8 * o + l.k) ∙ l.invariant.2,
      kept_more (marked a.marks.now) l.places l.count (8 * o + l.k) (c.from-count.ensures ∙ e) (omega (arith, l.invariant.1, l.invariant.2, t, u)) l.invariant.3 ∙ ap (kept _) n,
    )
