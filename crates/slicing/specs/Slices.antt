-- Slicing: what `demodulate` answers.
-- Assumes nothing.
use Rattle.std.specs.Prelude.{List, ◌++◌, Bool, not, ◌&&◌, cond, ℕ, ◌+◌, ◌*◌, eqb, ltb, length, Float}
use Rattle.std.specs.Float.Ieee.{lt}
use Rattle.lists.specs.Bits.{as_bit, packed}
use Rattle.math.specs.declared.Complex.{Complex}
use Rattle.math.specs.Complex.{norm_of}
use Rattle.place.specs.declared.Slicer.{Slicer}
use Rattle.place.specs.declared.Slicer.TheVariants.{Coherent, Noncoherent}
use Rattle.kernels.specs.Symbols.{complex_at}

-- what a slicer measures of a symbol: its real part or its norm
abbrev pub measure : Slicer → Complex → Float
measure Coherent a = a.re
measure Noncoherent a = norm_of a

-- a is strictly greater than b by that measure: not where they are equal, nor where one is NaN
abbrev pub greater_by : Slicer → Complex → Complex → Bool
greater_by slicer a b = lt (measure slicer b) (measure slicer a)

-- neither is strictly greater than the other: they are equal, or one is NaN
abbrev pub undecided : Slicer → Complex → Complex → Bool
undecided slicer a b = not (greater_by slicer a b) && not (greater_by slicer b a)

-- bit i of a stream tells something of symbols 2i + stream and 2i + stream + 1 of a row; where there is no second, it is `last`
abbrev pub of_pair : (Complex → Complex → Bool) → ℕ → List Float → ℕ → ℕ → ℕ
of_pair test last row stream i =
    cond (ltb (2 * i + stream + 1) 288) (as_bit (test (complex_at row (2 * i + stream)) (complex_at row (2 * i + stream + 1)))) last

-- a sliced bit tells whether the first is strictly greater; it is 0 where there is no second
unfoldable pub sliced_bit : Slicer → List Float → ℕ → ℕ → ℕ
sliced_bit slicer row = of_pair (greater_by slicer) 0 row

-- its mark tells whether it was undecided; it is 1 where there is no second
unfoldable pub mark_bit : Slicer → List Float → ℕ → ℕ → ℕ
mark_bit slicer row = of_pair (undecided slicer) 1 row

-- the 18 bytes of a stream
unfoldable pub sliced : Slicer → List Float → ℕ → List ℕ
sliced slicer row stream = packed 18 (sliced_bit slicer row stream)

-- and of its marks
unfoldable pub marks : Slicer → List Float → ℕ → List ℕ
marks slicer row stream = packed 18 (mark_bit slicer row stream)

-- both streams of a slicer
unfoldable pub streams_of : Slicer → List Float → List ℕ
streams_of slicer row = sliced slicer row 0 ++ sliced slicer row 1

-- and their marks
unfoldable pub marks_of : Slicer → List Float → List ℕ
marks_of slicer row = marks slicer row 0 ++ marks slicer row 1

-- two outputs for bits and two for marks, coherent and noncoherent
abbrev pub Outputs : Type 0
Outputs = List ℕ × List ℕ × List ℕ × List ℕ

-- each has 36 bytes, else 3
abbrev pub outputs_number : Outputs → ℕ
outputs_number (a, b, c, d) =
    cond (eqb (length a) 36) (cond (eqb (length b) 36) (cond (eqb (length c) 36) (cond (eqb (length d) 36) 0 3) 3) 3) 3

-- the number of a call of `demodulate`: a row has 576 numbers, else 2
unfoldable pub slicing_number : List Float → Outputs → ℕ
slicing_number row old = cond (eqb (length row) 576) (outputs_number old) 2

-- a number, and what stands in the outputs
abbrev pub leaving : ℕ → Outputs → ℕ × List ℕ × List ℕ × List ℕ × List ℕ
leaving n (a, b, c, d) = (n, a, b, c, d)

-- what `demodulate` answers, and what stands in the outputs then
unfoldable pub demodulated : List Float → Outputs → ℕ × List ℕ × List ℕ × List ℕ × List ℕ
demodulated row old =
    cond (eqb (slicing_number row old) 0)
    (leaving 0 (streams_of Coherent row, streams_of Noncoherent row, marks_of Coherent row, marks_of Noncoherent row))
    (leaving (slicing_number row old) old)
