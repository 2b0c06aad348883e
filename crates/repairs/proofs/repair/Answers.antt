-- `repairs::repair` meets its contract: what clears the message is known by its remainder. Assumes nothing.
use mathlib.Core.Path.{sym, ap, ◌∙◌}
use Prim.Native.Nat.{ℕ}
use native.Mathlib.Nat.{min-eq_left}
use Rattle.annex10.specs.Any.{clearing_up_to}
use Rattle.annex10.specs.Remainder.{remainder}
use Rattle.annex10.proofs.Mending.{mended_is, other_length, level_high, repair_done}
use Rattle.repairs.proofs.repair.Goals as goal

pub returns-then-message-ne14 : goal.returns-then-message-ne14
returns-then-message-ne14 c = other_length 14 2 c.args.level c.args.message.now c.if-message-ne14.true

pub returns-then-level-gt2 : goal.returns-then-level-gt2
returns-then-level-gt2 c = level_high 14 2 c.args.level c.args.message.now c.if-message-ne14.false c.if-level-gt2.true

pub returns : goal.returns
returns c = let m = c.args.message.now in
    let e = c.if-message-ne14.false in
    let l = c.if-level-gt2.false in
    repair_done 14 2 c.args.level m e l (sym (min-eq_left l))
    (c.fewest.ensures ∙ ap (clearing_up_to 14 c.args.level) c.crc24.ensures
    ∙ sym (mended_is c.args.level m ∙ ap (λ (n : ℕ). clearing_up_to n c.args.level (remainder m)) e))
