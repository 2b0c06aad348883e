-- `receiver::codes::bit_errors_of` meets its contract. Assumes nothing.
use native.Mathlib.Omega.{arith}
use lib.Bits.{and_mask}
use borrow.Author.Tests.{eq-eqb, ne_eqb, le-leb, lt-leb}
use Rattle.receiver.specs.Inner.{repairs_of, found_of}
use Rattle.receiver.proofs.codes.bit_errors_of.Goals as goal

pub returns-then-code-gt65535 : goal.returns-then-code-gt65535
unfolding found_of
returns-then-code-gt65535 c = simp (le-leb 65536 c.args.code (omega arith))

pub returns-in-255-default : goal.returns-in-255-default
unfolding found_of repairs_of
returns-in-255-default c = simp (lt-leb 65536 c.args.code (omega arith), eq-eqb _ _ c.in-255-default.is-0)

pub returns-in_default-eq255 : goal.returns-in_default-eq255
unfolding found_of repairs_of
returns-in_default-eq255 c =
    let f = c.in_default-eq255 in
    simp (lt-leb 65536 c.args.code (omega arith), ne_eqb _ _ f.is-0.1, ← and_mask c.args.code 8, eq-eqb _ _ f.is-1)

pub returns-in_default : goal.returns-in_default
unfolding found_of repairs_of
returns-in_default c =
    let f = c.in_default in
    simp (lt-leb 65536 c.args.code (omega arith), ne_eqb _ _ f.is-0.1, ← and_mask c.args.code 8, ne_eqb _ _ f.is-1.1)
