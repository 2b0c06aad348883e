-- What `count_undecided` answers.
-- Assumes nothing.
use Rattle.std.specs.Prelude.{◌||◌, cond, List, ℕ, ◌+◌, ◌*◌, ◌/◌, eqb, length, Float}
use Rattle.lists.specs.Bits.{as_bit, how_many}
use Rattle.lists.specs.Told.{Told, tell}
use Rattle.place.specs.declared.Slicer.{Slicer}
use Rattle.kernels.specs.Symbols.{complex_at}
use Rattle.slicing.specs.Slices.{undecided}

-- how many of the n bits of a message were undecided, from the two symbols of each
unfoldable pub undecided_in : Slicer → List Float → ℕ → ℕ
undecided_in slicer symbols n = how_many (λ (j : ℕ). as_bit (undecided slicer (complex_at symbols (2 * j)) (complex_at symbols (2 * j + 1)))) n

-- four numbers for each of the 112 or 56 bits of a message, else 2
unfoldable pub undecided_of : List Float → Slicer → Told ℕ
undecided_of symbols slicer =
    tell (cond (eqb (length symbols) 448 || eqb (length symbols) 224) 0 2) (undecided_in slicer symbols (length symbols / 4))
