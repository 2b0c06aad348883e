-- A list of places by their numbers: which are kept, where their remainders stand, and what the list's memory holds then.
-- Assumes nothing.
use Rattle.std.specs.Prelude.{ℕ, zero, suc, ◌+◌, ◌*◌, ◌/◌, ◌%◌, Bool, cond, List, [], ◌∷◌, ◌++◌, length, drop}

-- the numbers below n that a test takes, in their order
unfoldable pub kept : (ℕ → Bool) → ℕ → List ℕ
kept f zero = []
kept f (suc n) = cond (f n) (kept f n ++ (n ∷ [])) (kept f n)

-- where the remainder of place k stands. Within a bit offset the search has the clock phases, and both symbol offsets for each; samples
-- have the four clock phases of symbol offset 0, then those of 1
abbrev pub lane_of : ℕ → ℕ
lane_of k = 8 * (k / 8) + 4 * (k % 8 % 2) + k % 8 / 2

-- numbers over the front of a list, which is as it was behind them
unfoldable pub onto : List ℕ → List ℕ → List ℕ
onto ks list = ks ++ drop (length ks) list
