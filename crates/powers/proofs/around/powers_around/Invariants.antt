-- `powers::around::powers_around` meets its contract. The loops: the powers are those of the first 8k + m bits. Assumes nothing.
use mathlib.Core.Path.{◌≡◌}
use Prim.Native.Nat.{◌+◌, ◌*◌}
use Rattle.math.specs.Sum.{total}
use Rattle.powers.specs.Powers.{pulse_norm}
use Rattle.powers.proofs.around.powers_around.Given as goal

abbrev pub invariant-loop-m : goal.invariant-loop-m
invariant-loop-m l =
    (l.powers.earliest ≡ total (pulse_norm l.earliest l.message) (8 * l.k + l.m))
    × (l.powers.earlier ≡ total (pulse_norm l.earlier l.message) (8 * l.k + l.m))
    × (l.powers.later ≡ total (pulse_norm l.later l.message) (8 * l.k + l.m))
    × (l.powers.latest ≡ total (pulse_norm l.latest l.message) (8 * l.k + l.m))

abbrev pub invariant-loop-k : goal.invariant-loop-k
invariant-loop-k l =
    (l.powers.earliest ≡ total (pulse_norm l.earliest l.message) (8 * l.k))
    × (l.powers.earlier ≡ total (pulse_norm l.earlier l.message) (8 * l.k))
    × (l.powers.later ≡ total (pulse_norm l.later l.message) (8 * l.k))
    × (l.powers.latest ≡ total (pulse_norm l.latest l.message) (8 * l.k))
