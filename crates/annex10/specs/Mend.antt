-- A MESSAGE MENDED BY TRIAL: positions are turned over, the message is divided, and the first choice that leaves the remainder 0 is it.
-- Assumes nothing.
use Rattle.std.specs.Prelude.{cond, List, ℕ, min, eqb, leb, length}
use Rattle.lists.specs.Told.{Told, tell}
use Rattle.annex10.specs.Remainder.{remainder}
use Rattle.annex10.specs.Repair.{repaired, choose}
use Rattle.annex10.specs.Any.{up_to}
use Rattle.annex10.specs.declared.Repairs.{Repairs}
use Rattle.annex10.specs.declared.Found.{Found}
use Rattle.annex10.specs.declared.Found.TheVariants.{At, Nothing}

-- the positions, if the message with their bits turned over has the remainder 0
unfoldable pub tried : List ℕ → Repairs → Found
tried m ρ = cond (eqb (remainder (repaired m ρ)) 0) (At ρ) Nothing

-- no position; else each in turn; else each pair in order: up to as many as the level allows
unfoldable pub mended : ℕ → List ℕ → Found
mended level m = up_to (choose (tried m) (length m)) level

-- what a repair of a message of so many bytes answers: 2 for another length, 4 for a level above 2; else the fewest positions, at most as
-- many as the level and the kind of message allow
unfoldable pub repair_of : ℕ → ℕ → ℕ → List ℕ → Told Found
repair_of bytes most level m = tell (cond (eqb (length m) bytes) (cond (leb level 2) 0 4) 2) (mended (min level most) m)
