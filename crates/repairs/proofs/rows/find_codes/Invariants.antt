-- `repairs::rows::find_codes` meets its contract. The loop: the first i codes are stored, and `code` is that of the remainder `last`.
-- Assumes nothing.
use mathlib.Core.Path.{◌≡◌}
use Prim.Native.Nat.{ℕ}
use lib.ListN.{length, get_or}
use Rattle.lists.proofs.Table.{Done}
use Rattle.repairs.specs.Codes.{code_up_to}
use Rattle.repairs.proofs.rows.find_codes.Given as goal

abbrev pub invariant-loop-i : goal.invariant-loop-i
invariant-loop-i l = Done 0 (λ (k : ℕ). code_up_to 14 l.level (get_or l.crcs k 0)) (length l.crcs) l.codes l.i × (l.code ≡ code_up_to 14 l.level l.last)
