-- `receiver::by_trial::try_all` meets its contract. The loop: the first i codes are stored. Assumes nothing.
use Prim.Native.Nat.{min}
use lib.ListN.{length}
use Rattle.lists.proofs.Table.{Done}
use Rattle.receiver.specs.Inner.{kind_of, trial_code}
use Rattle.receiver.proofs.by_trial.try_all.Given as goal

abbrev pub invariant-loop-i : goal.invariant-loop-i
invariant-loop-i l = Done 0 (trial_code (kind_of l.kind) (min l.level (kind_of l.kind).most) l.coherent l.noncoherent) (length l.initial.codes) l.codes l.i
