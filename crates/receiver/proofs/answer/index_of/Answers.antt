-- `receiver::answer::index_of` meets its contract: nothing wraps, since a place that is searched starts with sample 8 at least.
-- Assumes nothing.
use mathlib.Core.Path.{subst}
use native.Mathlib.Omega.{arith}
use Prim.Native.Nat.{◌≤◌}
use Rattle.place.proofs.Within.{listed_gives}
use Rattle.timing.specs.declared.Moves.{Moves}
use Rattle.timing.specs.Inner.{moves_count}
use Rattle.search.specs.When.{index_of}
use Rattle.receiver.proofs.answer.index_of.Goals as goal

pub overflow_mul-start : goal.overflow_mul-start
overflow_mul-start c = let l = listed_gives 87 c.args.place c.requires.2 in omega arith

pub overflow_add-start : goal.overflow_add-start
overflow_add-start c = let l = listed_gives 87 c.args.place c.requires.2 in omega arith

pub overflow_mul-start-2 : goal.overflow_mul-start-2
overflow_mul-start-2 c = let l = listed_gives 87 c.args.place c.requires.2 in omega arith

pub overflow_add-start-2 : goal.overflow_add-start-2
overflow_add-start-2 c = let l = listed_gives 87 c.args.place c.requires.2 in omega arith

pub overflow_add-index : goal.overflow_add-index
overflow_add-index c = let l = listed_gives 87 c.args.place c.requires.2 in omega arith

pub overflow_add-result : goal.overflow_add-result
overflow_add-result c =
    let l = listed_gives 87 c.args.place c.requires.2 in
    let n : c.in-On.n ≤ 2 = subst (λ (m : Moves). moves_count m ≤ 2) c.in-On.is c.requires.3 in
    omega arith

pub overflow_sub-result : goal.overflow_sub-result
overflow_sub-result c =
    let l = listed_gives 87 c.args.place c.requires.2 in
    let n : c.in-Back.n ≤ 2 = subst (λ (m : Moves). moves_count m ≤ 2) c.in-Back.is c.requires.3 in
    omega arith

pub returns-in-On : goal.returns-in-On
unfolding index_of
returns-in-On c = rw c.in-On.is

pub returns-in-Back : goal.returns-in-Back
unfolding index_of
returns-in-Back c = rw c.in-Back.is
