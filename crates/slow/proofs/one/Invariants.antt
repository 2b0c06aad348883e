-- `slow::one` meets its contract. The loop: none of the first j positions clears the message. Assumes nothing.
use mathlib.Core.Path.{◌≡◌}
use Prim.Native.Nat.{ℕ}
use Rattle.annex10.specs.declared.Repairs.TheVariants.{One}
use Rattle.annex10.specs.declared.Found.TheVariants.{Nothing}
use Rattle.annex10.specs.Repair.{seek}
use Rattle.annex10.specs.Mend.{tried}
use Rattle.slow.proofs.one.Given as goal

abbrev pub invariant-loop-j : goal.invariant-loop-j
invariant-loop-j l = seek (λ (i : ℕ). tried l.message (One i)) l.j ≡ Nothing
