-- `annex10::lies_inside` meets its contract: a position lies in so many bytes exactly when its byte does.
-- Assumes nothing.
use mathlib.Core.Path.{◌≡◌, sym, ◌∙◌}
use Prim.Native.Nat.{ℕ, ◌*◌, ◌/◌}
use native.Mathlib.Decide.{dec_lt}
use native.Mathlib.Omega.{arith}
use lib.Dec.{ltb}
use borrow.Author.Tests.{lt-ltb, le-ltb}
use Rattle.annex10.proofs.lies_inside.Goals as goal

by_byte : (j bytes : ℕ) → ltb (j / 8) bytes ≡ ltb j (8 * bytes)
by_byte j bytes = elim (dec_lt (j / 8) bytes) [
  | yes l ↦ lt-ltb (j / 8) bytes l ∙ sym (lt-ltb j (8 * bytes) (omega arith))
  | no l ↦ le-ltb (j / 8) bytes (omega arith) ∙ sym (le-ltb j (8 * bytes) (omega arith))
]

pub returns : goal.returns
returns c = by_byte c.args.j c.args.bytes
