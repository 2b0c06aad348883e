-- The positions that clear a remainder, however many, and those of them that are n.
-- Assumes nothing.
use Rattle.std.specs.Prelude.{cond, ℕ, zero, suc, eqb}
use Rattle.annex10.specs.Repair.{count, or_else, clearing}
use Rattle.annex10.specs.declared.Found.{Found}
use Rattle.annex10.specs.declared.Found.TheVariants.{At, Nothing}

-- no position, else one, else two
unfoldable pub clearing_any : ℕ → ℕ → Found
clearing_any bytes r = or_else (clearing bytes 0 r) (or_else (clearing bytes 1 r) (clearing bytes 2 r))

-- what f finds with no position, else with one, and so on, up to as many as the level allows
unfoldable pub up_to : (ℕ → Found) → ℕ → Found
up_to f zero = f 0
up_to f (suc level) = or_else (up_to f level) (f (suc level))

-- no position, else one, and so on, up to as many as the level allows
unfoldable pub clearing_up_to : ℕ → ℕ → ℕ → Found
clearing_up_to bytes zero r = clearing bytes 0 r
clearing_up_to bytes (suc level) r = or_else (clearing_up_to bytes level r) (clearing bytes (suc level) r)

-- what is found, if it is n positions
abbrev pub only : Found → ℕ → Found
only Nothing n = Nothing
only (At ρ) n = cond (eqb n (count ρ)) (At ρ) Nothing
