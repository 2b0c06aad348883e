-- `slow::two` meets its contract. The loop: no pair whose second position is before k clears the message. Assumes nothing.
use mathlib.Core.Path.{◌≡◌}
use Prim.Native.Nat.{ℕ}
use Rattle.annex10.specs.declared.Repairs.TheVariants.{Two}
use Rattle.annex10.specs.declared.Found.TheVariants.{Nothing}
use Rattle.annex10.specs.Repair.{seek}
use Rattle.annex10.specs.Mend.{tried}
use Rattle.slow.proofs.two.Given as goal

abbrev pub invariant-loop-k : goal.invariant-loop-k
invariant-loop-k l = seek (λ (i : ℕ). seek (λ j. tried l.message (Two j i)) i) l.k ≡ Nothing
