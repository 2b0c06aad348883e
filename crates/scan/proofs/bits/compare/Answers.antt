-- `scan::bits::compare` meets its contract. The loop: the bits before i are stored. Assumes nothing.
use Rattle.std.proofs.Common.{◌∙◌, arith}
use Rattle.lists.proofs.Table.{done_more}
use Rattle.scan.specs.Inner.{bit_in, bits_of}
use Rattle.scan.proofs.Comparing.{bit_is, no_bit, zeros_behind}
use Rattle.scan.proofs.bits.compare.Goals as goal

pub loop-i-preserved : goal.loop-i-preserved
loop-i-preserved c = (omega arith, done_more _ _ _ _ _ _ (omega arith) c.loop-i.invariant.1 (bit_is _ _ c.loop-i-test.true c.from.ensures))

pub returns : goal.returns
unfolding bits_of
returns c =
    let l = c.loop-i in
    zeros_behind (bit_in c.args.row.now) 1152 1148 l.bits (l.auto.bits ∙ c.requires.1) (omega arith) l.invariant.1 c.loop-i-test.false (c.fill.ensures.after (λ y e. e)) (λ k h. no_bit c.args.row.now k h)
