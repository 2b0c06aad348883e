-- `sieve::find_of` meets its contract. Each return is the definition's case for the tests that led there. Assumes nothing.
use Rattle.std.proofs.Common.{inl, inr, arith}
use Rattle.std.proofs.lemmas.Result.{err_from_is_err_and}
use Rattle.annex10.specs.Length.{message_bytes, most_repairs}
use Rattle.sieve.proofs.Picking.{level_zero}
use Rattle.sieve.proofs.Asking.{sieved_not, not_inputs, not_outputs, not_level, sieved_done}
use Rattle.sieve.proofs.find_of.Goals as goal
use Rattle.sieve.proofs.find_of.Goals.{then-crcs-via-then-crcs, then-crcs-via-else-crcs+then-others, then-list-via-then-list, then-list-via-else-list+then-codes}

pub returns-in_err-lent : goal.returns-in_err-lent
returns-in_err-lent g c =
    let p = err_from_is_err_and c.from_residual.result c.from_residual.ensures.1 in
    let h = c.in_err-lent.ensures in
    rw (p.1, p.2, h.0) (sieved_not _ _ _ _ _ _ _ _ _ _ h.1)

pub returns-then-crcs : goal.returns-then-crcs
returns-then-crcs g c = not_inputs _ _ _ _ _ _ _ _ _ _ c.in_ok-lent.ensures.0 (elim c.then-crcs.branch [
  | then-crcs-via-then-crcs w ↦ inl w.if-crcs.true
  | then-crcs-via-else-crcs+then-others w ↦ inr (w.if-crcs.false, w.if-others.true)
])

pub returns-then-list : goal.returns-then-list
returns-then-list g c = not_outputs _ _ _ _ _ _ _ _ _ _ c.in_ok-lent.ensures.0 c.if-crcs.false c.if-others.false (elim c.then-list.branch [
  | then-list-via-then-list w ↦ inl w.if-list.true
  | then-list-via-else-list+then-codes w ↦ inr (w.if-list.false, w.if-codes.true)
])

pub returns-then-level-gt2 : goal.returns-then-level-gt2
returns-then-level-gt2 g c =
    not_level _ _ _ _ _ _ _ _ _ _ c.in_ok-lent.ensures.0 c.if-crcs.false c.if-others.false c.if-list.false c.if-codes.false c.if-level-gt2.true

pub returns-then-level-eq0 : goal.returns-then-level-eq0
returns-then-level-eq0 g c =
    let a = c.args in
    sieved_done (message_bytes a.kind) (most_repairs a.kind) _ a.level a.displacements.now a.owners.now a.crcs.now a.others.now a.list.now a.codes.now 0 _ _ _ c.in_ok-lent.ensures.0
    c.if-crcs.false c.if-others.false c.if-list.false c.if-codes.false
    (omega (arith, c.if-level-eq0.true)) (omega (arith, c.if-level-eq0.true)) (level_zero _ _ _ _ _ _)

pub returns : goal.returns
returns g c =
    let a = c.args in
    let h = c.in_ok-lent.ensures in
    sieved_done (message_bytes a.kind) (most_repairs a.kind) _ a.level a.displacements.now a.owners.now a.crcs.now a.others.now a.list.now a.codes.now c.min-level.result _ _ _ h.0
    c.if-crcs.false c.if-others.false c.if-list.false c.if-codes.false
    c.if-level-gt2.false (rw c.most.ensures at c.min-level.ensures) (rw (← h.1 c.min-level.result a.crcs.now, ← h.1 c.min-level.result a.others.now, c.requires.1) c.find.ensures)
