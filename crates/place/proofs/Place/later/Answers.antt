-- `place::Place::later` meets its contract: each branch gives the place whose sample start is one more.
-- Assumes nothing.
use mathlib.Core.Path.{sym, ◌∙◌}
use native.Mathlib.Omega.{arith}
use Rattle.place.specs.Step.{later_of}
use Rattle.place.proofs.Within.{within_gives}
use Rattle.place.proofs.Steps.{later_by_law}
use Rattle.place.proofs.Place.later.Goals as goal

pub returns-then-self-lt-PHASE_MAX : goal.returns-then-self-lt-PHASE_MAX
unfolding later_of
returns-then-self-lt-PHASE_MAX c =
    let w = within_gives _ c.args.self (sym c.is_within.ensures ∙ c.if-not-is_within.false) in
    later_by_law _ _ _ w (omega arith) (omega arith) (omega arith) (omega arith)

pub returns-then-self-lt-SYMBOL_MAX : goal.returns-then-self-lt-SYMBOL_MAX
unfolding later_of
returns-then-self-lt-SYMBOL_MAX c =
    let w = within_gives _ c.args.self (sym c.is_within.ensures ∙ c.if-not-is_within.false) in
    later_by_law _ _ _ w (omega arith) (omega arith) (omega arith) (omega arith)

pub returns-else-self-lt-SYMBOL_MAX : goal.returns-else-self-lt-SYMBOL_MAX
unfolding later_of
returns-else-self-lt-SYMBOL_MAX c =
    let w = within_gives _ c.args.self (sym c.is_within.ensures ∙ c.if-not-is_within.false) in
    later_by_law _ _ _ w (omega arith) (omega arith) (omega arith) (omega arith)
