-- `receiver::by_trial::list_all` meets its contract. The loop: the first k numbers are stored. Assumes nothing.
use Prim.Native.Nat.{ℕ}
use lib.ListN.{length}
use Rattle.lists.proofs.Table.{Done}
use Rattle.receiver.proofs.by_trial.list_all.Given as goal

abbrev pub invariant-loop-k : goal.invariant-loop-k
invariant-loop-k l = Done 0 (λ (i : ℕ). i) (length l.initial.list) l.list l.k
