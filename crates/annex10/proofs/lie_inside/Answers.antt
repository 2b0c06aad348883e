-- `annex10::lie_inside` meets its contract, position by position.
-- Assumes nothing.
use Rattle.annex10.proofs.lie_inside.Goals as goal

pub returns-in-One : goal.returns-in-One
returns-in-One c = rw c.in-One.is c.lies_inside.ensures

pub returns-then-lies_inside : goal.returns-then-lies_inside
returns-then-lies_inside c = rw (c.in-Two.is, ← c.lies_inside-in-Two.ensures, c.if-lies_inside.true) c.lies_inside-then-lies_inside.ensures

pub returns-else-lies_inside : goal.returns-else-lies_inside
returns-else-lies_inside c = rw (c.in-Two.is, ← c.lies_inside-in-Two.ensures, c.if-lies_inside.false)
