-- `receiver::tray::fill` meets its contract. Assumes nothing.
use mathlib.Core.Path.{◌≡◌, refl, sym, ◌∙◌}
use native.Mathlib.Omega.{arith}
use borrow.Author.Rules.{rules}
use Rattle.rows.proofs.Beside.{beside_none, beside_more, beside_all}
use Rattle.receiver.proofs.Traying.{row_bytes, row_words, row_floats}
use Rattle.receiver.proofs.tray.fill.Goals as goal

pub loop-k-init : goal.loop-k-init
loop-k-init c = let p = c.requires in (p.0, beside_none _ _ _ _ p.1, beside_none _ _ _ _ p.2, beside_none _ _ _ _ p.3)

pub step-requires : goal.step-requires
step-requires c =
    let l = c.loop-k.invariant in
    (c.loop-k-test.true, l.0, l.1.size, l.2.size, l.3.size)

pub loop-k-preserved : goal.loop-k-preserved
loop-k-preserved c =
    let a = c.args in
    let w = a.w.now in
    let l = c.loop-k in
    let h = c.loop-k-test.true in
    let e = c.step.ensures in (
      search rules,
      rw e.0 (beside_more _ _ _ _ _ _ h l.invariant.1 refl (row_bytes w.samples.now w.s w.indices.now l.k a.both)),
      rw e.1 (beside_more _ _ _ _ _ _ h l.invariant.2 refl (row_words w.samples.now w.s w.indices.now l.k a.both)),
      rw e.2 (beside_more _ _ _ _ _ _ h l.invariant.3 refl (row_floats w.samples.now w.s w.indices.now l.k a.both)),
    )

pub shape_of-sums : goal.shape_of-sums
shape_of-sums c = c.loop-k.invariant.0 ∙ sym c.requires.0

pub shape_of-messages : goal.shape_of-messages
shape_of-messages c = c.loop-k.invariant.1.size ∙ sym c.requires.1

pub shape_of-words : goal.shape_of-words
shape_of-words c = c.loop-k.invariant.2.size ∙ sym c.requires.2

pub shape_of-floats : goal.shape_of-floats
shape_of-floats c = c.loop-k.invariant.3.size ∙ sym c.requires.3

pub returns : goal.returns
returns c =
    let l = c.loop-k in
    let e : l.k ≡ c.args.w.now.n = omega (arith, c.loop-k-test.false) in
    (beside_all _ _ _ _ (rw e at l.invariant.1), beside_all _ _ _ _ (rw e at l.invariant.2), beside_all _ _ _ _ (rw e at l.invariant.3))
