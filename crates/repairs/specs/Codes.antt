-- What clears many remainders with at most so many positions, as numbers.
-- Assumes nothing.
use Rattle.std.specs.Prelude.{cond, List, ℕ, min, eqb, leb, length, get_or}
use Rattle.lists.specs.From.{tabulate}
use Rattle.annex10.specs.Any.{clearing_up_to}
use Rattle.annex10.specs.Codes.{code_of}

-- the code of one remainder of a message of n bytes
unfoldable pub code_up_to : ℕ → ℕ → ℕ → ℕ
code_up_to n level r = code_of (clearing_up_to n level r)

-- the codes of many
unfoldable pub codes_up_to : ℕ → ℕ → List ℕ → List ℕ
codes_up_to n level crcs = tabulate (length crcs) (λ (i : ℕ). code_up_to n level (get_or crcs i 0))

-- with at most as many positions as the level and the kind of message allow; as many codes as remainders, else 3; a level above 2: 4
unfoldable pub codes_up_to_into : ℕ → ℕ → ℕ → List ℕ → List ℕ → ℕ × List ℕ
codes_up_to_into n most level crcs codes =
    cond (eqb (length codes) (length crcs)) (cond (leb level 2) (0, codes_up_to n (min level most) crcs) (4, codes)) (3, codes)
