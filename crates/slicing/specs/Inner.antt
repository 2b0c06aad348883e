-- What private functions compute: no public contract cites it.
-- Assumes nothing.
use Rattle.std.specs.Prelude.{Bool, not, ◌&&◌, cond, List, ℕ, ◌+◌, ◌*◌, ◌/◌, ◌%◌, ◌^◌, ltb, get_or, Float}
use Rattle.std.specs.Int.Bits.{bit_or}
use Rattle.std.specs.Float.{nan}
use Rattle.std.specs.Float.Ieee.{lt}
use Rattle.lists.specs.Bits.{as_bit}
use Rattle.lists.specs.From.{tabulate}
use Rattle.place.specs.declared.Slicer.{Slicer}
use Rattle.kernels.specs.Symbols.{complex_at}
use Rattle.slicing.specs.Slices.{measure}

-- what a slicer compares of a row
unfoldable pub measures_of : Slicer → List Float → List Float
measures_of slicer row = tabulate 288 (λ (i : ℕ). measure slicer (complex_at row i))

-- of each number but the last, what a test says of it and the next; of the last, `end`
abbrev pub in_turn : (Float → Float → Bool) → ℕ → List Float → ℕ → ℕ
in_turn test end xs j = cond (ltb (j + 1) 288) (as_bit (test (get_or xs j nan) (get_or xs (j + 1) nan))) end

-- the bits of both streams in turn
unfoldable pub bits_in_turn : List Float → List ℕ
bits_in_turn xs = tabulate 288 (in_turn (λ a b. lt b a) 0 xs)

-- and their marks
unfoldable pub marks_in_turn : List Float → List ℕ
marks_in_turn xs = tabulate 288 (in_turn (λ a b. not (lt b a) && not (lt a b)) 1 xs)

-- the bits of stream 0, then those of stream 1
unfoldable pub apart_of : List ℕ → List ℕ
apart_of bits = tabulate 288 (λ (j : ℕ). get_or bits (2 * (j % 144) + j / 144) 0)

-- n numbers, each of two that are w bits wide, the first higher
unfoldable pub joined : ℕ → ℕ → List ℕ → List ℕ
joined n w xs = tabulate n (λ (i : ℕ). bit_or (get_or xs (2 * i) 0 * 2 ^ w % 256) (get_or xs (2 * i + 1) 0))

-- the bits of both streams, joined three times
unfoldable pub bytes_of : List ℕ → List ℕ
bytes_of bits = joined 36 4 (joined 72 2 (joined 144 1 (apart_of bits)))
