-- `powers::power::postdecode_noise_power` meets its contract. The loops: the power is that of the first 8k + m bits. Assumes nothing.
use mathlib.Core.Path.{◌≡◌}
use Prim.Native.Nat.{◌+◌, ◌*◌}
use Rattle.math.specs.Sum.{total}
use Rattle.powers.specs.Powers.{empty_norm}
use Rattle.powers.proofs.power.postdecode_noise_power.Given as goal

abbrev pub invariant-loop-m : goal.invariant-loop-m
invariant-loop-m l = l.power ≡ total (empty_norm l.samples l.message) (8 * l.k + l.m)

abbrev pub invariant-loop-k : goal.invariant-loop-k
invariant-loop-k l = l.power ≡ total (empty_norm l.samples l.message) (8 * l.k)
