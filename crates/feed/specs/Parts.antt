-- An input part by part: a part that is not there, or that is not as it has to be, ends it with a refusal.
-- Assumes nothing.
use Rattle.std.specs.Prelude.{Bool, cond, List, [], ◌∷◌, ℕ, leb, length, take, drop}
use Rattle.words.specs.Words.{little_endian}
use Rattle.search.specs.declared.Settings.{Settings}

-- how an input stops: at its end, or because it cannot be read any further
pub data Stop : Type 0 where
  end : Stop
  failure : Stop

-- what is said of an input, line by line: so many windows are announced; a window, counted from 0, with the settings, its index and the
-- bytes of its samples; a refusal
pub data Line : Type 0 where
  head : ℕ → Line
  window : ℕ → Settings → ℕ → List ℕ → Line
  refusal : ℕ → Line

-- what is said for the next n bytes and the rest of the input; where there are fewer, it is malformed
unfoldable pub next_bytes : ℕ → List ℕ → (List ℕ → List ℕ → List Line) → List Line
next_bytes n input say = cond (leb n (length input)) (say (take n input) (drop n input)) (refusal 10 ∷ [])

-- the same for the number that the next n bytes write
unfoldable pub next_number : ℕ → List ℕ → (ℕ → List ℕ → List Line) → List Line
next_number n input say = next_bytes n input (λ part rest. say (little_endian part) rest)

-- what is said where a test holds; where it does not, it is the refusal
unfoldable pub need : Bool → ℕ → List Line → List Line
need test number lines = cond test lines (refusal number ∷ [])
