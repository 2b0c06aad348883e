-- `streams::bits::byte_at` meets its contract: a whole byte, or one that crosses from a byte to the next. Assumes nothing.
use mathlib.Core.Path.{◌≡◌}
use Prim.Native.Nat.{◌+◌, ◌*◌, ◌/◌, ◌%◌}
use native.Mathlib.Omega.{arith}
use Rattle.lists.proofs.Bits.{byte_whole, byte_across}
use Rattle.streams.proofs.bits.byte_at.Goals as goal

pub returns-then-o-eq0 : goal.returns-then-o-eq0
returns-then-o-eq0 c =
    let j = c.args.j in
    let e : 8 * (j / 8) ≡ j = omega arith in
    rw e at (byte_whole c.args.bytes.now (j / 8) (c.type_inv.bytes (j / 8)).fits)

pub returns-else-o-eq0 : goal.returns-else-o-eq0
returns-else-o-eq0 c =
    let j = c.args.j in
    let e : 8 * (j / 8) + j % 8 ≡ j = omega arith in
    rw e at (byte_across c.args.bytes.now (j / 8) (j % 8) (omega arith) (c.type_inv.bytes (j / 8 + 1)).fits)
