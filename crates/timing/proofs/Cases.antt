-- The worked cases of timing. The timing is the value before 0.5 is taken from it.
-- Assumes nothing.
use mathlib.Core.Path.{◌≡◌, refl}
use mathlib.Core.Bool.{true, false}
use mathlib.Core.List.{List, [], ◌∷◌, map}
use lib.Ieee.{Float, nan, inf, add, sub, lt, le, of_bits}
use Rattle.timing.specs.declared.Offset.TheVariants.{Earlier, Same, Later}
use Rattle.timing.specs.declared.Moves.{Moves}
use Rattle.timing.specs.declared.Moves.TheVariants.{Back, On}
use Rattle.timing.specs.declared.Timing.{Timing}
use Rattle.timing.specs.Subsample.{one, minus_one, halves, held, fraction_of, move, turn, after_moves, gained, timing_of}

abbrev settles : Moves → Float → Timing
settles m f = record { moves = m; fraction = f }

pub record Case : Type 0 where
  pub found : Timing
  pub said : Timing

-- timing 1: one move on. Timing -2: two moves back. Timing 2: two moves on, by a value beyond any range. NaN: no move
abbrev pub cases : List Case
cases =
    record { found = timing_of (fraction_of one Same); said = settles (On 1) (halves true 1) }
    ∷ record { found = timing_of (fraction_of minus_one Earlier); said = settles (Back 2) (halves true 1) }
    ∷ record { found = timing_of (fraction_of (inf false) Later); said = settles (On 2) (halves true 1) }
    ∷ record { found = timing_of (fraction_of nan Later); said = settles (On 0) nan }
    ∷ []

pub cases_hold : map (λ (c : Case). c.found) cases ≡ map (λ (c : Case). c.said) cases
unfolding timing_of fraction_of held after_moves gained move turn add sub lt le of_bits
cases_hold = refl
