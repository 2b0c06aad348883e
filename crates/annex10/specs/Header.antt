-- The header of a message: its first byte, the format in the top 5 bits and a code in the low 3.
-- Assumes nothing.
use Rattle.std.specs.Prelude.{Bool, false, ◌&&◌, ◌||◌, List, [], ◌∷◌, ℕ, ◌/◌, ◌%◌, eqb}
use Rattle.annex10.specs.declared.MessageKind.{MessageKind}
use Rattle.annex10.specs.declared.MessageKind.TheVariants.{Short, Long}

unfoldable pub one_of : List ℕ → ℕ → Bool
one_of [] x = false
one_of (y ∷ ys) x = eqb x y || one_of ys x

-- the capability codes of formats 11 and 17
abbrev pub capabilities : List ℕ
capabilities = 0 ∷ 4 ∷ 5 ∷ 6 ∷ 7 ∷ []

-- the control codes of format 18
abbrev pub controls : List ℕ
controls = 0 ∷ 2 ∷ 3 ∷ 4 ∷ 5 ∷ 6 ∷ []

-- an extended squitter, of 14 bytes
unfoldable pub long_header : ℕ → Bool
long_header b = (eqb (b / 8) 17 && one_of capabilities (b % 8)) || (eqb (b / 8) 18 && one_of controls (b % 8))

-- an acquisition squitter, of 7 bytes
unfoldable pub short_header : ℕ → Bool
short_header b = eqb (b / 8) 11 && one_of capabilities (b % 8)

-- the first bytes that a message of a kind has
abbrev pub listed_header : MessageKind → ℕ → Bool
listed_header Short = short_header
listed_header Long = long_header
