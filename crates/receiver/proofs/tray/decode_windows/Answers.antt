-- `receiver::tray::decode_windows` meets its contract. Assumes nothing.
use native.Mathlib.Omega.{arith}
use Rattle.std.proofs.lemmas.Result.{err_from_is_err_and}
use Rattle.receiver.proofs.Traying.{fitting, tray_refused, tray_none, tray_done}
use Rattle.receiver.proofs.tray.decode_windows.Goals as goal

pub returns-in_err-check_tray : goal.returns-in_err-check_tray
returns-in_err-check_tray c =
    let a = c.args in
    let p = err_from_is_err_and c.from_residual.result c.from_residual.ensures.1 in
    rw (p.1, p.2) (tray_refused a.both a.n a.messages.now a.words.now a.floats.now a.samples.now a.s a.indices.now _ c.in_err-check_tray.ensures)

pub fill_lent-requires : goal.fill_lent-requires
fill_lent-requires c =
    let a = c.args in
    let f = fitting a.both a.n a.messages.now a.words.now a.floats.now a.samples.now a.s a.indices.now c.in_ok-check_tray.ensures in
    (f.few, f.each, f.one, f.bytes, f.whole, f.pairs)

pub returns-then-n-gt0 : goal.returns-then-n-gt0
returns-then-n-gt0 c =
    let a = c.args in
    tray_done a.both a.n a.messages.now a.words.now a.floats.now a.samples.now a.s a.indices.now c.in_ok-check_tray.ensures c.fill_lent.ensures

pub returns-else-n-gt0 : goal.returns-else-n-gt0
returns-else-n-gt0 c =
    let a = c.args in
    tray_none a.both a.n a.messages.now a.words.now a.floats.now a.samples.now a.s a.indices.now c.in_ok-check_tray.ensures (omega (arith, c.if-n-gt0.false))
