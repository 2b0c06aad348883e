-- A message repaired in place, where nothing is refused.
-- Assumes nothing.
use mathlib.Core.Path.{◌≡◌}
use mathlib.Core.Bool.{true}
use mathlib.Core.List.{List}
use Prim.Native.Nat.{ℕ}
use lib.ListN.{length}
use Rattle.annex10.specs.declared.Repairs.{Repairs}
use Rattle.annex10.specs.Length.{message_length}
use Rattle.annex10.specs.Repair.{inside, repaired}
use Rattle.mode_s.specs.Corrected.{corrected}

pub corrected_done : (n : ℕ) (m : List ℕ) (ρ : Repairs) → message_length n ≡ true → length m ≡ n → inside n ρ ≡ true → corrected ρ m ≡ (0, repaired m ρ)
unfolding corrected
corrected_done n m ρ t e i = rw (e, t, i)
