-- A byte of the division at once: what `bring_byte` answers.
-- Assumes nothing.
use Rattle.std.specs.Prelude.{ℕ, ◌*◌, ◌/◌, ◌%◌, ◌^◌, ◌≡◌, List, [], ◌∷◌, ◌++◌}
use Rattle.std.specs.Int.Bits.{bit_xor}
use Rattle.annex10.specs.Remainder.{remainder}

-- eight steps: what is below x^16 moves on by a byte, and what passes x^24 is divided together with the byte that is brought down
unfoldable pub bring_byte : ℕ → ℕ → ℕ
bring_byte r b = bit_xor (r % 2 ^ 16 * 2 ^ 8) (remainder (bit_xor (r / 2 ^ 16 % 2 ^ 8) b ∷ []))

-- WHAT IT IS FOR: it takes the remainder of a string to the remainder of the string and one byte more
pub record OneByteMore : Type 0 where
  pub step : (xs : List ℕ) (byte : ℕ) → bring_byte (remainder xs) byte ≡ remainder (xs ++ (byte ∷ []))
