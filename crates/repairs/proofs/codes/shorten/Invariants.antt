-- `repairs::codes::shorten` meets its contract. The loop: the first codes are changed, and those behind them as they were. Assumes nothing.
use mathlib.Core.Path.{◌≡◌}
use Prim.Native.Nat.{ℕ, ◌≤◌}
use lib.ListN.{length, get_or}
use Rattle.lists.proofs.Table.{Done}
use Rattle.repairs.specs.Inner.{short_code}
use Rattle.repairs.proofs.codes.shorten.Given as goal

abbrev pub invariant-loop-code : goal.invariant-loop-code
invariant-loop-code l = Done 0 (λ (k : ℕ). short_code (get_or l.initial.codes k 0)) (length l.initial.codes) l.codes l.code-index
    × ((k : ℕ) → l.code-index ≤ k → get_or l.codes k 0 ≡ get_or l.initial.codes k 0)
