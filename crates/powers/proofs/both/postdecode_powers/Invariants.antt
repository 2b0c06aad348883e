-- `powers::both::postdecode_powers` meets its contract. The loops: the powers are those of the first 8k + m bits. Assumes nothing.
use mathlib.Core.Path.{◌≡◌}
use Prim.Native.Nat.{◌+◌, ◌*◌}
use Rattle.math.specs.Sum.{total}
use Rattle.powers.specs.Powers.{pulse_norm, empty_norm}
use Rattle.powers.proofs.both.postdecode_powers.Given as goal

abbrev pub invariant-loop-m : goal.invariant-loop-m
invariant-loop-m l = (l.prompt ≡ total (pulse_norm l.symbols l.message) (8 * l.k + l.m)) × (l.noise ≡ total (empty_norm l.samples l.message) (8 * l.k + l.m))

abbrev pub invariant-loop-k : goal.invariant-loop-k
invariant-loop-k l = (l.prompt ≡ total (pulse_norm l.symbols l.message) (8 * l.k)) × (l.noise ≡ total (empty_norm l.samples l.message) (8 * l.k))
