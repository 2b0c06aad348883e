-- THE LINES OF AN INPUT, whatever its bytes are. Each part is checked as it is met, and what was said before a refusal stands.
-- Assumes nothing.
use Rattle.std.specs.Prelude.{List, [], ◌∷◌, ◌++◌, ℕ, zero, suc, ◌*◌, eqb, leb, length}
use Rattle.std.specs.Float.{binary32}
use Rattle.std.specs.Float.Ieee.{of_bits}
use Rattle.std.specs.Float.Ieee.Scale.{finite}
use Rattle.search.specs.declared.Settings.{Settings}
use Rattle.search.specs.Answers.{index_number}
use Rattle.feed.specs.Parts.{Stop, end, failure, Line, head, window, refusal, next_bytes, next_number, need}

-- behind the last window comes the end: a byte too many is refused, and so is a read that fails
unfoldable pub ending : Stop → List ℕ → List Line
ending end [] = []
ending failure [] = refusal 10 ∷ []
ending stop (b ∷ bs) = refusal 10 ∷ []

-- a line for each window, numbered from k: its samples are 9,240 bytes
unfoldable pub window_lines : Stop → Settings → ℕ → List ℕ → List ℕ → List Line
window_lines stop s k [] input = ending stop input
window_lines stop s k (index ∷ indices) input =
    next_bytes 9240 input (λ part rest. window k s index part ∷ window_lines stop s (suc k) indices rest)

-- the sample count is 2,310 for each index; then the first line
unfoldable pub samples_lines : Stop → Settings → List ℕ → List ℕ → List Line
samples_lines stop s indices input =
    next_number 4 input (λ count rest.
    need (eqb count (2310 * length indices)) 10 (head (length indices) ∷ window_lines stop s 0 indices rest))

-- n indices more, behind those that are there
unfoldable pub indices_lines : Stop → Settings → ℕ → List ℕ → List ℕ → List Line
indices_lines stop s zero indices input = samples_lines stop s indices input
indices_lines stop s (suc n) indices input =
    next_number 8 input (λ index rest. need (eqb (index_number index) 0) 6 (indices_lines stop s n (indices ++ (index ∷ [])) rest))

-- the settings in their order, how many windows, and what comes of them
unfoldable pub lines_of : Stop → List ℕ → List Line
lines_of stop input =
    next_number 4 input (λ count rest. need (eqb count 4) 10
    (next_number 4 rest (λ level rest. need (leb level 2) 4
    (next_number 4 rest (λ bits rest. let threshold = of_bits binary32 bits in need (finite threshold) 5
    (next_number 4 rest (λ bits rest. let second = of_bits binary32 bits in need (finite second) 5
    (next_number 4 rest (λ distance rest.
    let s : Settings = record { level = level; threshold = threshold; second = second; distance = distance } in
    next_number 4 rest (λ windows rest. need (leb windows 64) 10 (indices_lines stop s windows [] rest)))))))))))
