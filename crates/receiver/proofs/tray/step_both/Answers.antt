-- `receiver::tray::step_both` meets its contract. Assumes nothing.
use mathlib.Core.Path.{refl}
use Prim.Native.Nat.{◌*◌}
use native.Mathlib.Omega.{arith}
use Rattle.receiver.proofs.Traying.{placed, part_size_law, long_size, both_rows}
use Rattle.receiver.proofs.tray.step_both.Goals as goal

pub put_both-requires : goal.put_both-requires
put_both-requires c =
    let a = c.args in
    let p = c.requires in (
      part_size_law (21 * a.k) _ 21 _ refl (omega (arith, p.0, p.2)),
      part_size_law (22 * a.k) _ 22 _ refl (omega (arith, p.0, p.3)),
      part_size_law (4 * a.k) _ 4 _ refl (omega (arith, p.0, p.4)),
      long_size _ _ _ c.both_at-a.ensures.0,
    )

pub returns : goal.returns
returns c =
    let a = c.args in
    let w = a.w.now in
    let e = c.put_both.ensures in
    let b = c.both_at-a in
    let rows = both_rows w.samples.now w.s w.indices.now a.k b.result.long b.result.short b.ensures.0 b.ensures.1 e.0 e.1 e.2 in
    (placed (21 * a.k) _ 21 _ refl rows.0, placed (22 * a.k) _ 22 _ refl rows.1, placed (4 * a.k) _ 4 _ refl rows.2)
