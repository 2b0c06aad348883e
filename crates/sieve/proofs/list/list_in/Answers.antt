-- `sieve::list::list_in` meets its contract. The loops: the places before this one are listed. Assumes nothing.
use Rattle.std.proofs.Common.{◌≡◌, ◌+◌, ◌*◌, refl, ap, ◌∙◌, arith}
use Rattle.scan.specs.Sieve.{kept}
use Rattle.scan.proofs.Keeping.{bit_le, kept_more}
use Rattle.sieve.specs.Inner.{let_in}
use Rattle.sieve.proofs.Owning.{let_bit}
use Rattle.sieve.proofs.list.list_in.Goals as goal

pub loop-o-init : goal.loop-o-init
unfolding kept
loop-o-init c = (omega arith, refl)

pub loop-k-preserved : goal.loop-k-preserved
loop-k-preserved c =
    let h = c.args.hash.now in
    let f = let_in h.shape h.displacements.now h.owners.now c.args.crcs.now c.args.others.now in
    let k = c.loop-k in
    let o = c.loop-o.o in
    let e = let_bit h.shape h.displacements.now h.owners.now c.args.crcs.now c.args.others.now o k.k c.loop-k-test.true c.lets.ensures c.lets-in-loop-k.ensures c.from-count.ensures in
    let n : 8 * o + k.k + 1 ≡ 8 * o + (k.k + 1) = omega arith in
    (omega (arith, e, bit_le (f (8 * o + k.k))), kept_more f k.list k.count (8 * o + k.k) e (omega arith) k.invariant.1 ∙ ap (kept _) n)
