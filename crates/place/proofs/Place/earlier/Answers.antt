-- `place::Place::earlier` meets its contract: each branch gives the place whose sample start is one less.
-- Assumes nothing.
use mathlib.Core.Path.{sym, ◌∙◌}
use native.Mathlib.Omega.{arith}
use Rattle.place.specs.Step.{earlier_of}
use Rattle.place.proofs.Within.{within_gives}
use Rattle.place.proofs.Steps.{earlier_by_law}
use Rattle.place.proofs.Place.earlier.Goals as goal

pub returns-then-self-gt0 : goal.returns-then-self-gt0
unfolding earlier_of
returns-then-self-gt0 c =
    let w = within_gives _ c.args.self (sym c.is_within.ensures ∙ c.if-not-is_within.false) in
    earlier_by_law _ _ _ w (omega arith) (omega arith) (omega arith)

pub returns-then-self-gt0-2 : goal.returns-then-self-gt0-2
unfolding earlier_of
returns-then-self-gt0-2 c =
    let w = within_gives _ c.args.self (sym c.is_within.ensures ∙ c.if-not-is_within.false) in
    earlier_by_law _ _ _ w (omega arith) (omega arith) (omega arith)

pub returns-then-self-gt0-3 : goal.returns-then-self-gt0-3
unfolding earlier_of
returns-then-self-gt0-3 c =
    let w = within_gives _ c.args.self (sym c.is_within.ensures ∙ c.if-not-is_within.false) in
    earlier_by_law _ _ _ w (omega arith) (omega arith) (omega arith)
