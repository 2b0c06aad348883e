-- `scan::rows::find_rows` meets its contract. The loop: the real parts and norms before i are stored. Assumes nothing.
use Rattle.std.proofs.Common.{ℕ, ◌*◌, ◌≤◌, get_or}
use lib.Ieee.{nan}
use Rattle.lists.proofs.Table.{Done}
use Rattle.math.specs.Complex.{norm_of}
use Rattle.kernels.specs.Symbols.{complex_at}
use Rattle.scan.proofs.rows.find_rows.Given as goal

abbrev pub invariant-loop-i : goal.invariant-loop-i
invariant-loop-i l = (l.i ≤ 1152) × Done nan (λ (k : ℕ). get_or l.sums (2 * k) nan) 1152 l.reals l.i × Done nan (λ (k : ℕ). norm_of (complex_at l.sums k)) 1152 l.norms l.i
