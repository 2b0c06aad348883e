-- `repairs::named::pattern_of` meets its contract. The loop: so many zero bytes are behind the first. Assumes nothing.
use mathlib.Core.Path.{◌≡◌, ◌∙◌}
use Prim.Native.Nat.{◌-◌, ◌/◌}
use native.Mathlib.Omega.{arith}
use Rattle.repairs.proofs.Naming.{raised_none, raised_more, pattern_raised, pattern_outside}
use Rattle.repairs.proofs.named.pattern_of.Goals as goal

pub returns-then-position-ge112 : goal.returns-then-position-ge112
returns-then-position-ge112 c = pattern_outside _ c.if-position-ge112.true c.ranges.position.fits

pub loop-init : goal.loop-init
loop-init c = (omega arith, raised_none _ c.bring_byte-crc.ensures)

pub loop-preserved : goal.loop-preserved
loop-preserved c = (omega arith, raised_more _ _ c.loop.invariant.1 c.bring_byte-crc-in-loop.ensures)

pub returns : goal.returns
returns c = let l = c.loop in
    let a = c.args in
    let e : l.counter ≡ 13 - a.position / 8 = omega (arith, l.invariant.0, c.loop-test.false) in
    l.invariant.1 ∙ rw e (pattern_raised a.position (omega (arith, c.if-position-ge112.false)))
