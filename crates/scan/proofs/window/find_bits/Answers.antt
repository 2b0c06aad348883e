-- `scan::window::find_bits` meets its contract. Assumes nothing.
use Rattle.kernels.proofs.Summing.{sums_made}
use Rattle.scan.proofs.Starting.{reals_made, norms_made}
use Rattle.scan.proofs.window.find_bits.Goals as goal

pub returns : goal.returns
returns c =
    let p = c.requires in
    let r = c.find_rows.ensures in
    let e = sums_made _ _ p.0 p.1 c.running_sums.ensures in
    (e, reals_made _ e r.0 c.compare.ensures, norms_made _ e r.1 c.compare-2.ensures)
