-- `sieve::keep::keep` meets its contract. The loop: of the first m places those that are taken are stored. Assumes nothing.
use Rattle.std.proofs.Common.{◌+◌, sym, arith}
use Rattle.sieve.proofs.Picking.{kept_start, kept_taken, kept_left, kept_as, kept_all}
use Rattle.sieve.proofs.keep.keep.Goals as goal
use Rattle.sieve.proofs.keep.keep.Goals.{then-is_taken, else-is_taken}

pub loop-m-init : goal.loop-m-init
loop-m-init c = kept_start _ _ _ _

pub loop-m-preserved : goal.loop-m-preserved
loop-m-preserved c =
    let l = c.loop-m in
    elim c.if-is_taken.branch [
      | then-is_taken w ↦ kept_as _ _ _ _ (l.m + 1) w.list-is w.codes-is w.kept-is
          (kept_taken _ _ _ _ l.m l.kept l.list l.codes (omega arith) (omega arith) (sym w.if-is_taken.ensures) l.invariant)
      | else-is_taken w ↦ kept_as _ _ _ _ (l.m + 1) w.list-is w.codes-is w.kept-is
          (kept_left _ _ _ _ l.m l.kept l.list l.codes (sym w.if-is_taken.ensures) l.invariant)
    ]

pub returns : goal.returns
returns c = let l = c.loop-m in kept_all _ _ _ _ l.m l.kept _ l.list l.codes (omega arith) l.invariant
