-- `receiver::phase::row_of` meets its contract. Assumes nothing.
use mathlib.Core.Path.{◌≡◌}
use Prim.Native.Nat.{◌+◌, ◌-◌, ◌*◌}
use native.Mathlib.Omega.{arith}
use Rattle.receiver.proofs.phase.row_of.Goals as goal

pub returns : goal.returns
returns c = let e : 576 * c.args.phase + 576 - 576 * c.args.phase ≡ 576 = omega arith in rw e
