-- The header check of a first byte with its repairs.
-- Assumes nothing.
use Rattle.std.specs.Prelude.{Bool, cond, ℕ}
use Rattle.lists.specs.Told.{Told, tell}
use Rattle.annex10.specs.declared.Repairs.{Repairs}
use Rattle.annex10.specs.Repair.{inside, repaired_head}

-- what a check of a message of so many bytes answers: 8 for a position outside it, else whether the repaired first byte is taken
unfoldable pub header_of : ℕ → (ℕ → Bool) → ℕ → Repairs → Told Bool
header_of bytes taken first ρ = tell (cond (inside bytes ρ) 0 8) (taken (repaired_head first ρ))
