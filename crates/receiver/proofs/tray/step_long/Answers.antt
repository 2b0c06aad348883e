-- `receiver::tray::step_long` meets its contract. Assumes nothing.
use mathlib.Core.Path.{refl}
use mathlib.Core.Logic.{inr}
use Prim.Native.Nat.{◌*◌}
use native.Mathlib.Omega.{arith}
use Rattle.rows.proofs.Laid.{result_done}
use Rattle.receiver.proofs.Traying.{placed, part_size_law, long_rows}
use Rattle.receiver.proofs.tray.step_long.Goals as goal

pub returns : goal.returns
returns c =
    let a = c.args in
    let w = a.w.now in
    let p = c.requires in
    let done =
    result_done _ _ _ _ 14 (inr refl) (part_size_law (14 * a.k) _ 14 _ refl (omega (arith, p.0, p.2))) (part_size_law (11 * a.k) _ 11 _ refl (omega (arith, p.0, p.3)))
    (part_size_law (2 * a.k) _ 2 _ refl (omega (arith, p.0, p.4))) c.put_result.ensures in
    let rows = long_rows w.samples.now w.s w.indices.now a.k c.decode_at-a.ensures done.0 done.1 done.2 in
    (placed (14 * a.k) _ 14 _ refl rows.0, placed (11 * a.k) _ 11 _ refl rows.1, placed (2 * a.k) _ 2 _ refl rows.2)
