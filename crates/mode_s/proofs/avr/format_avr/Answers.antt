-- `mode_s::avr::format_avr` meets its contract: all the bytes of the output are those of the line.
-- Assumes nothing.
use mathlib.Core.List.{List}
use mathlib.Core.Path.{sym, ap, ◌∙◌}
use borrow.Author.Tests.{eq-eqb}
use Prim.Native.Nat.{ℕ}
use native.Mathlib.Omega.{arith}
use Rattle.lists.proofs.Table.{done_all}
use Rattle.mode_s.specs.Avr.{avr_line}
use Rattle.mode_s.proofs.Text.{avr_whole}
use Rattle.mode_s.proofs.avr.format_avr.Goals as goal

pub returns : goal.returns
unfolding avr_line
returns c = simp (sym c.is_message.ensures ∙ c.if-not-is_message.false, eq-eqb _ _ c.if-out-message.false)
    (ap (λ (l : List ℕ). (0, l)) (done_all _ _ _ _ _ (omega arith) c.loop-i.invariant ∙ avr_whole _))
