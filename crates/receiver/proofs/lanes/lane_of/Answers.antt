-- `receiver::lanes::lane_of` meets its contract.
-- Assumes nothing.
use mathlib.Core.Path.{refl, ap, ◌∙◌}
use mathlib.Core.List.{List}
use Prim.Native.Nat.{ℕ}
use native.Mathlib.Omega.{arith}
use lib.ListN.{replicate}
use Rattle.scan.proofs.Packing.{lane_done}
use Rattle.receiver.proofs.lanes.lane_of.Goals as goal

pub returns : goal.returns
returns c = ap (λ (x : ℕ × List ℕ). x.1) (c.find_stream.ensures ∙ lane_done c.args.bits.now c.args.lane (replicate 18 0) c.requires.0 refl (omega (arith, c.requires.1)))
