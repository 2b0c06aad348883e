-- What a slicer's bit is, straight from the samples of a window, and which bits were undecided.
-- Assumes nothing.
use Rattle.std.specs.Prelude.{◌≡◌, true, List, ℕ, ◌+◌, ◌*◌, ◌<◌, Float}
use Rattle.lists.specs.Bits.{as_bit, bit_at, how_many}
use Rattle.math.specs.declared.Complex.{Complex}
use Rattle.place.specs.declared.Place.{Place}
use Rattle.place.specs.declared.Slicer.{Slicer}
use Rattle.place.specs.Step.{symbol_start}
use Rattle.place.specs.All.{listed}
use Rattle.kernels.specs.Symbols.{symbol_of}
use Rattle.slicing.specs.Slices.{greater_by, undecided}
use Rattle.search.specs.Seen.{bits_at, marks_at, undecided_at}

-- the two halves of bit j at a place: symbols, each the sum of four samples
abbrev pub first_half : List Float → Place → ℕ → Complex
first_half samples p j = symbol_of samples p.phase (symbol_start p + 2 * j)

abbrev pub second_half : List Float → Place → ℕ → Complex
second_half samples p j = symbol_of samples p.phase (symbol_start p + 2 * j + 1)

-- bit j of a slicer at a place: 1 exactly when the first half is strictly greater than the second. The coherent slicer compares real
-- parts, the noncoherent one norms
unfoldable pub slicer_bit : List Float → Slicer → Place → ℕ → ℕ
slicer_bit samples slicer p j = as_bit (greater_by slicer (first_half samples p j) (second_half samples p j))

-- 1 exactly when neither half is strictly greater than the other: the bit was a coin toss
unfoldable pub coin_toss : List Float → Slicer → Place → ℕ → ℕ
coin_toss samples slicer p j = as_bit (undecided slicer (first_half samples p j) (second_half samples p j))

-- the bits that a search for messages of n bytes looks at are those, at every place with a bit offset of 1 to m
pub record Heard (n m : ℕ) (samples : List Float) : Type 0 where
  pub heard : (slicer : Slicer) (p : Place) → listed m p ≡ true → (j : ℕ) → j < 8 * n
      → bit_at (bits_at n samples slicer p) j ≡ slicer_bit samples slicer p j
  -- so are their marks, and what is counted of them
  pub marked : (slicer : Slicer) (p : Place) → listed m p ≡ true → (j : ℕ) → j < 8 * n
      → bit_at (marks_at n samples slicer p) j ≡ coin_toss samples slicer p j
  pub counted : (slicer : Slicer) (p : Place) → listed m p ≡ true
      → undecided_at n samples slicer p ≡ how_many (coin_toss samples slicer p) (8 * n)
  -- none of them is bit 143 of its stream, which is marked whatever the samples are
  pub short_of_end : (p : Place) → listed m p ≡ true → (j : ℕ) → j < 8 * n → p.bit + j < 143
