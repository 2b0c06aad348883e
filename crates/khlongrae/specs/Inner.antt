-- What private functions answer. No public contract rests on it.
-- Assumes nothing.
use Rattle.std.specs.Prelude.{cond, ℕ}
use Rattle.lists.specs.Told.{Told, and_then, tell}
use Rattle.annex10.specs.declared.Repairs.{Repairs}
use Rattle.annex10.specs.Repair.{inside}
use Rattle.mode_s.specs.Counted.{counted_repairs}

-- counted repairs whose positions are below 256: those of 32 bytes, and 8 for any other
unfoldable pub narrow_repairs : ℕ → ℕ → ℕ → Told Repairs
narrow_repairs count j k = and_then (counted_repairs count j k) (λ ρ. tell (cond (inside 32 ρ) 0 8) ρ)
