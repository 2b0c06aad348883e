-- The bits that a search looks at are comparisons of two symbols, each a sum of four samples, and so are their marks.
-- Assumes nothing.
use mathlib.Core.Path.{◌≡◌, ◌∙◌}
use mathlib.Core.List.{List}
use Prim.Native.Nat.{ℕ, ◌+◌, ◌*◌, ◌≤◌, ◌<◌}
use native.Mathlib.Omega.{arith}
use lib.Ieee.{Float}
use Rattle.lists.specs.Bits.{bit_at}
use Rattle.place.specs.declared.Place.{Place}
use Rattle.place.specs.declared.Slicer.{Slicer}
use Rattle.place.proofs.Within.{listed_gives}
use Rattle.slicing.specs.Slices.{greater_by, sliced_bit}
use Rattle.slicing.proofs.Slicing.{bit_sliced}
use Rattle.streams.proofs.Reading.{message_bit}
use Rattle.search.specs.Seen.{row, stream, bits_at}
use Rattle.search.proofs.Marks.{short_of_end, compared, marks_tossed, by_samples}
use Rattle.claims.specs.Bits.{slicer_bit, coin_toss, Heard}

module _ (samples : List Float) (slicer : Slicer) (p : Place) where
  -- bit j of a message at a place is bit `bit + j` of the place's stream
  stream_bit_law : (n j : ℕ) → j < 8 * n → p.bit + j < 144
      → bit_at (bits_at n samples slicer p) j ≡ sliced_bit slicer (row samples p.phase) p.symbol (p.bit + j)
  unfolding bits_at stream
  stream_bit_law n j h l = message_bit _ n p.bit j h ∙ bit_sliced slicer (row samples p.phase) p.symbol (p.bit + j) l

pub heard : (n m : ℕ) (samples : List Float) → m + 8 * n ≤ 143 → Heard n m samples
unfolding slicer_bit coin_toss sliced_bit
heard n m samples h =
    record {
      heard = λ slicer p e j l.
          let g = listed_gives m p e in
          let b = short_of_end n m p j h e l in
          stream_bit_law samples slicer p n j l (omega arith) ∙ compared samples p (greater_by slicer) 0 j g.phase g.symbol b;
      marked = λ slicer p e. marks_tossed samples p n m h e slicer;
      counted = λ slicer p e. by_samples samples p n m h e slicer;
      short_of_end = λ p e j. short_of_end n m p j h e;
    }
