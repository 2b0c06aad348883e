-- The fraction of a sample, and the moves of whole samples between it and the index.
-- Assumes nothing.
use Rattle.std.specs.Prelude.{Bool, true, false, cond, ℕ, suc, ℤ, pos, negsuc, ◌+ℤ◌, Float}
use Rattle.std.specs.Float.{fin, binary32}
use Rattle.std.specs.Float.Ieee.{add, sub, lt, le}
use Rattle.floats.specs.Numbers.{zero_f}
use Rattle.timing.specs.declared.Offset.{Offset}
use Rattle.timing.specs.declared.Offset.TheVariants.{Earlier, Same, Later}
use Rattle.timing.specs.declared.Moves.{Moves}
use Rattle.timing.specs.declared.Moves.TheVariants.{Back, On}
use Rattle.timing.specs.declared.Timing.{Timing}

abbrev pub one : Float
one = fin false 1 (pos 0)

abbrev pub minus_one : Float
minus_one = fin true 1 (pos 0)

-- b / 2, negative where s is true; b is odd
abbrev pub halves : Bool → ℕ → Float
halves s b = fin s b (negsuc 0)

-- held to [-1, 1]; a NaN stays
unfoldable pub held : Float → Float
held x = cond (lt x minus_one) minus_one (cond (lt one x) one x)

-- the offset as a float
abbrev pub offset_of : Offset → Float
offset_of Earlier = minus_one
offset_of Same = zero_f
offset_of Later = one

-- the parabola's value, held to [-1, 1], plus the offset, minus 0.5
unfoldable pub fraction_of : Float → Offset → Float
fraction_of parabola offset = sub binary32 (add binary32 (held parabola) (offset_of offset)) (halves false 1)

-- a round of the while: below -0.5 one sample goes from the index to the fraction, from 0.5 on the other way; else nothing moves
unfoldable pub move : Float → Float
move f = cond (lt f (halves true 1)) (add binary32 f one) (cond (le (halves false 1) f) (sub binary32 f one) f)

-- what the index gains in a round
unfoldable pub turn : Float → ℤ
turn f = cond (lt f (halves true 1)) (negsuc 0) (cond (le (halves false 1) f) (pos 1) (pos 0))

-- the fraction after the while: two rounds, after which nothing is left to move of all that timing can give
unfoldable pub after_moves : Float → Float
after_moves f = move (move f)

-- what the index gains in the while
unfoldable pub gained : Float → ℤ
gained f = turn f +ℤ turn (move f)

-- an integer as moves
abbrev pub moves_of : ℤ → Moves
moves_of (pos n) = On n
moves_of (negsuc n) = Back (suc n)

-- the moves and the fraction that is left
unfoldable pub timing_of : Float → Timing
timing_of f = record { moves = moves_of (gained f); fraction = after_moves f }
