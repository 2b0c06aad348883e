-- `scan::stream::byte_from` meets its contract. The loop: the number has the first m bits. Assumes nothing.
use Rattle.std.proofs.Common.{◌≡◌, refl, ap, ◌∙◌, arith}
use lib.Bits.{and_mask}
use Rattle.lists.specs.Bits.{value}
use Rattle.scan.specs.Lanes.{byte_from}
use Rattle.scan.proofs.Packing.{bit_more}
use Rattle.scan.proofs.stream.byte_from.Goals as goal

pub loop-m-init : goal.loop-m-init
unfolding value
loop-m-init c = (omega arith, refl)

pub loop-m-preserved : goal.loop-m-preserved
loop-m-preserved c =
    let l = c.loop-m in
    let a = c.args in
    (omega arith, bit_more a.bits.now a.p l.m l.b c.loop-m-test.true l.invariant.1 (and_mask _ 1))

pub returns : goal.returns
unfolding byte_from
returns c =
    let l = c.loop-m in
    let e : l.m ≡ 8 = omega (arith, l.invariant.0, c.loop-m-test.false) in
    l.invariant.1 ∙ ap (value _ _) e
