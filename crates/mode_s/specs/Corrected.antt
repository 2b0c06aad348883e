-- A message repaired in place.
-- Assumes nothing.
use Rattle.std.specs.Prelude.{cond, List, ℕ, length}
use Rattle.annex10.specs.declared.Repairs.{Repairs}
use Rattle.annex10.specs.Length.{message_length}
use Rattle.annex10.specs.Repair.{inside, repaired}

-- what is answered, and what the message is afterwards: 2 where it is no message, 8 for a position outside it
unfoldable pub corrected : Repairs → List ℕ → ℕ × List ℕ
corrected ρ m = cond (message_length (length m)) (cond (inside (length m) ρ) (0, repaired m ρ) (8, m)) (2, m)
