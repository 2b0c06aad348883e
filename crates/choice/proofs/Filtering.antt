-- The first test of the filter.
-- Assumes nothing.
use mathlib.Core.Path.{◌≡◌}
use mathlib.Core.Bool.{false}
use mathlib.Core.Logic.{◌≢◌}
use Prim.Native.Nat.{ℕ}
use borrow.Author.Tests.{ne_eqb}
use Rattle.annex10.specs.Repair.{count}
use Rattle.search.specs.declared.Candidate.{Candidate}
use Rattle.search.specs.declared.Settings.{Settings}
use Rattle.search.specs.Choice.{dropped}

-- what has not two repairs is not dropped
pub not_two : (s : Settings) (differing : ℕ) (c : Candidate) {n : ℕ} → n ≡ count c.location.repairs → n ≢ 2 → false ≡ dropped s differing c
unfolding dropped
not_two s differing c {n} p e = rw (← p, ne_eqb n 2 e)
