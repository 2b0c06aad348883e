-- An AVR line: `*`, the hex digits of a message of 7 or 14 bytes, `;`.
-- Assumes nothing.
use Rattle.std.specs.Prelude.{cond, List, [], ◌∷◌, ◌++◌, ℕ, ◌+◌, ◌-◌, ◌*◌, ◌/◌, ◌%◌, eqb, ltb, length}
use Rattle.annex10.specs.Length.{message_length}

-- a number below 16 as a capital hex digit: 48 is `0`, 65 is `A`
unfoldable pub hex_digit : ℕ → ℕ
hex_digit n = cond (ltb n 10) (48 + n) (65 + (n - 10))

-- two digits for each byte, the higher first
unfoldable pub hex_text : List ℕ → List ℕ
hex_text [] = []
hex_text (x ∷ xs) = hex_digit (x / 16) ∷ hex_digit (x % 16) ∷ hex_text xs

-- 42 is `*`, 59 is `;`
unfoldable pub avr_text : List ℕ → List ℕ
avr_text m = 42 ∷ (hex_text m ++ (59 ∷ []))

-- what is answered, and what the output is afterwards: 2 where it is no message, 3 where the output is not as long as the line
unfoldable pub avr_line : List ℕ → List ℕ → ℕ × List ℕ
avr_line m out =
    cond (message_length (length m))
    (cond (eqb (length out) (2 * length m + 2)) (0, avr_text m) (3, out))
    (2, out)
