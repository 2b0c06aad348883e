-- `timing::turns::settle_from` meets its contract. The loop's invariant: the fraction is in range, comes to rest where the first one does,
-- and the index with the moves that are left is the first index with all of them. The measure is the number of turns that the tests leave.
-- Assumes nothing.
use native.Mathlib.Omega.{arith}
use lib.Ieee.{of_bits, neg, binary32, fits}
use denote.Floats.{passes}
use Rattle.timing.proofs.Reading.{range_gives}
use Rattle.timing.proofs.Turning.{todo_up, todo_down}
use Rattle.timing.proofs.Keeping.{begins, some_left, spans_up, spans_down, up_keeps, down_keeps, ends}
use Rattle.timing.proofs.turns.settle_from.Goals as goal

pub loop-fraction-init : goal.loop-fraction-init
loop-fraction-init c = begins c.args.index c.args.fraction c.requires.0 (range_gives c.args.fraction (passes (fits binary32 c.args.fraction) c.well_formed.1.0.1) c.requires.2)

pub overflow_sub-index : goal.overflow_sub-index
unfolding of_bits neg
overflow_sub-index c = let l = c.loop-fraction in
    some_left l.fraction l.index l.invariant.range l.invariant.low c.if-fraction.true

pub loop-fraction-smaller-then-fraction : goal.loop-fraction-smaller-then-fraction
unfolding of_bits neg
loop-fraction-smaller-then-fraction c = let l = c.loop-fraction in
    todo_up l.fraction (spans_up l.fraction l.invariant.range c.if-fraction.true) c.if-fraction.true

pub loop-fraction-preserved-then-fraction : goal.loop-fraction-preserved-then-fraction
unfolding of_bits neg
loop-fraction-preserved-then-fraction c = let l = c.loop-fraction in
    up_keeps c.args.index c.args.fraction l.index l.fraction l.invariant c.if-fraction.true

pub overflow_add-index : goal.overflow_add-index
unfolding of_bits neg
overflow_add-index c = let l = c.loop-fraction in
    let t = todo_down l.fraction (spans_down l.fraction l.invariant.range c.if-fraction-2.true) c.if-fraction-2.true in
    omega (arith, l.invariant.high, c.requires.1)

pub loop-fraction-smaller : goal.loop-fraction-smaller
unfolding of_bits neg
loop-fraction-smaller c = let l = c.loop-fraction in
    todo_down l.fraction (spans_down l.fraction l.invariant.range c.if-fraction-2.true) c.if-fraction-2.true

pub loop-fraction-preserved : goal.loop-fraction-preserved
unfolding of_bits neg
loop-fraction-preserved c = let l = c.loop-fraction in
    down_keeps c.args.index c.args.fraction l.index l.fraction l.invariant c.if-fraction.false c.if-fraction-2.true

pub returns-else-fraction-2 : goal.returns-else-fraction-2
unfolding of_bits neg
returns-else-fraction-2 c = let l = c.loop-fraction in
    ends c.args.index c.args.fraction l.index l.fraction l.invariant (c.if-fraction.false, c.if-fraction-2.false)
