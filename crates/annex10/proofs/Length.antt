-- Laws of the length of a message.
--     short_length, long_length    7 bytes and 14 are those of a message
--     message_small                it has at most 14
--     kind_length, kind_small      the same of the bytes of a kind
-- Assumes nothing.
use mathlib.Core.Path.{◌≡◌, refl}
use mathlib.Core.Bool.{Bool, true, false, ◌||◌}
use Prim.Native.Nat.{ℕ, ◌≤◌}
use native.Mathlib.Omega.{arith}
use borrow.Author.Tests.{eqb-true}
use lib.Dec.{eqb}
use Rattle.annex10.specs.declared.MessageKind.{MessageKind}
use Rattle.annex10.specs.declared.MessageKind.TheVariants.{Short, Long}
use Rattle.annex10.specs.Length.{message_length, message_bytes}

pub short_length : message_length 7 ≡ true
unfolding message_length
short_length = refl

pub long_length : message_length 14 ≡ true
unfolding message_length
long_length = refl

pub message_small : (n : ℕ) → message_length n ≡ true → n ≤ 14
unfolding message_length
message_small n e = go (eqb n 7) refl e
  where
    go : (b : Bool) → eqb n 7 ≡ b → (b || eqb n 14) ≡ true → n ≤ 14
    go true q e = omega (arith, eqb-true n 7 q)
    go false q e = omega (arith, eqb-true n 14 e)

pub kind_length : (kind : MessageKind) → message_length (message_bytes kind) ≡ true
kind_length Short = short_length
kind_length Long = long_length

pub kind_small : (kind : MessageKind) → message_bytes kind ≤ 14
kind_small Short = omega arith
kind_small Long = omega arith
