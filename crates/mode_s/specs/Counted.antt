-- Repairs told by a count and two positions, where an enum cannot be handed over.
-- Assumes nothing.
use Rattle.std.specs.Prelude.{cond, ℕ, eqb, leb}
use Rattle.lists.specs.Told.{Told, tell}
use Rattle.annex10.specs.declared.Repairs.{Repairs}
use Rattle.annex10.specs.declared.Repairs.TheVariants.{None, One, Two}

-- none, j, or j and k: what is not counted is not looked at; 4 for any other count
unfoldable pub counted_repairs : ℕ → ℕ → ℕ → Told Repairs
counted_repairs count j k = tell (cond (leb count 2) 0 4) (cond (eqb count 0) None (cond (eqb count 1) (One j) (Two j k)))
