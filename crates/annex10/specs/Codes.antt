-- What clears a remainder, as a number.
-- Assumes nothing.
use Rattle.std.specs.Prelude.{ℕ, ◌+◌, ◌*◌}
use Rattle.annex10.specs.declared.Repairs.TheVariants.{None, One, Two}
use Rattle.annex10.specs.declared.Found.{Found}
use Rattle.annex10.specs.declared.Found.TheVariants.{At, Nothing}

-- in place of a position that is not there
abbrev pub absent : ℕ
absent = 255

-- the first position, then the second, a byte for each
abbrev pub pair : ℕ → ℕ → ℕ
pair j k = j * 256 + k

-- what clears a remainder as a number; where nothing does, a number above every pair
abbrev pub code_of : Found → ℕ
code_of Nothing = 65536
code_of (At None) = pair absent absent
code_of (At (One j)) = pair j absent
code_of (At (Two j k)) = pair j k
