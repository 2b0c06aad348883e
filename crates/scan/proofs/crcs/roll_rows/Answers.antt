-- `scan::crcs::roll_rows` meets its contract. The loop: the remainders before number i + 8 are stored. Assumes nothing.
use Rattle.std.proofs.Common.{◌≡◌, ◌+◌, arith}
use Rattle.lists.proofs.Table.{done_more, done_all}
use Rattle.scan.specs.Flat.{crcs_in}
use Rattle.scan.proofs.Comparing.{done_at}
use Rattle.scan.proofs.Rolled.{crc_next, crc_lt}
use Rattle.scan.proofs.crcs.roll_rows.Goals as goal

pub roll-requires : goal.roll-requires
roll-requires c =
    let l = c.loop-i in
    let n = c.args.n in
    (crc_lt n _ l.i (l.invariant.1.each l.i (omega arith)), c.requires.2.each _, c.requires.2.each _)

pub roll-requires-in-loop-i : goal.roll-requires-in-loop-i
roll-requires-in-loop-i c =
    let l = c.loop-i in
    let n = c.args.n in
    (crc_lt n _ l.i (l.invariant.2.each l.i (omega arith)), c.requires.3.each _, c.requires.3.each _)

pub loop-i-preserved : goal.loop-i-preserved
loop-i-preserved c =
    let l = c.loop-i in
    let p = c.requires in
    let t = c.loop-i-test.true in
    let e : l.i + 8 + 1 ≡ l.i + 1 + 8 = omega arith in (
      omega (arith, t),
      done_at _ _ _ _ e (done_more _ _ _ _ (l.i + 8) _ (omega (arith, t)) l.invariant.1 (crc_next c.args.n c.args.power _ p.1 p.2 l.i (l.invariant.1.each l.i (omega arith)) c.roll.ensures)),
      done_at _ _ _ _ e (done_more _ _ _ _ (l.i + 8) _ (omega (arith, t)) l.invariant.2 (crc_next c.args.n c.args.power _ p.1 p.3 l.i (l.invariant.2.each l.i (omega arith)) c.roll-in-loop-i.ensures)),
    )

pub returns : goal.returns
unfolding crcs_in
returns c = (done_all _ _ _ _ _ (omega arith) c.loop-i.invariant.1, done_all _ _ _ _ _ (omega arith) c.loop-i.invariant.2)
