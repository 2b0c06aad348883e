-- The worked cases: what is asked, and what it must be.
-- Assumes nothing.
use Rattle.std.specs.Prelude.{◌≡◌, Bool, true, false, List, [], ◌∷◌, ◌++◌, ℕ, ℤ, pos, negsuc, Float, replicate}
use Rattle.std.specs.Float.{fin}
use Rattle.lists.specs.Told.{Told, done}
use Rattle.floats.specs.Numbers.{zero_f, two}
use Rattle.annex10.specs.Remainder.{remainder}
use Rattle.annex10.specs.Header.{long_header}
use Rattle.annex10.specs.Repair.{pattern, clearing}
use Rattle.annex10.specs.declared.Repairs.TheVariants.{One, Two}
use Rattle.annex10.specs.declared.Found.{Found}
use Rattle.annex10.specs.declared.Found.TheVariants.{At}
use Rattle.math.specs.Parabola.{minus_half, parabola}
use Rattle.cn0.specs.Logarithm.{log_steps}
use Rattle.place.specs.declared.Place.{Place}
use Rattle.place.specs.Step.{earlier_of, later_of}
use Rattle.timing.specs.declared.Offset.TheVariants.{Same, Earlier}
use Rattle.timing.specs.declared.Moves.TheVariants.{On, Back}
use Rattle.timing.specs.declared.Timing.{Timing}
use Rattle.timing.specs.Subsample.{one, fraction_of, timing_of}

pub data Case : Type 0 where
  number : ℕ → ℕ → Case
  truth : Bool → Bool → Case
  positions : Found → Found → Case
  whole : ℤ → ℤ → Case
  real : Float → Float → Case
  step : Told Place → Told Place → Case
  time : Timing → Timing → Case

-- both sides are the same
abbrev pub ComesOut : Case → Type 0
ComesOut (number x y) = x ≡ y
ComesOut (truth x y) = x ≡ y
ComesOut (positions x y) = x ≡ y
ComesOut (whole x y) = x ≡ y
ComesOut (real x y) = x ≡ y
ComesOut (step x y) = x ≡ y
ComesOut (time x y) = x ≡ y

abbrev pub All : List Case → Type 0
All [] = Unit
All (c ∷ cs) = ComesOut c × All cs

-- 88 07 76 AC and ten zeros
abbrev pub worked : List ℕ
worked = (0x88 ∷ 0x07 ∷ 0x76 ∷ 0xAC ∷ []) ++ replicate 10 0

-- the text 123456789
abbrev pub check : List ℕ
check = 49 ∷ 50 ∷ 51 ∷ 52 ∷ 53 ∷ 54 ∷ 55 ∷ 56 ∷ 57 ∷ []

-- 0.25, 1, 1.5, 3, -1
abbrev pub quarter : Float
quarter = fin false 1 (negsuc 1)

abbrev pub one_and_a_half : Float
one_and_a_half = fin false 3 (negsuc 0)

abbrev pub three : Float
three = fin false 3 (pos 0)

abbrev pub minus_one : Float
minus_one = fin true 1 (pos 0)

-- bit offset, clock phase, symbol offset
abbrev pub at : ℕ → ℕ → ℕ → Place
at bit phase symbol = record { bit = bit; phase = phase; symbol = symbol }

-- remainders, headers, the logarithm, the parabola, steps; timing 1, and timing -2
abbrev pub cases : List Case
cases =
    number (remainder worked) 0
    ∷ number (pattern 14 (One 111)) 0xFFF409
    ∷ number (pattern 14 (One 110)) 0x001C1B
    ∷ number (pattern 14 (Two 110 111)) 0xFFE812
    ∷ positions (clearing 14 2 0xFFE812) (At (Two 110 111))
    ∷ number (remainder check) 0x54268
    ∷ truth (long_header 0x88) true
    ∷ truth (long_header 0x90) true
    ∷ truth (long_header 0x89) false
    ∷ truth (long_header 0x91) false
    ∷ whole (log_steps one_and_a_half) (pos 38336)
    ∷ whole (log_steps two) (pos 65536)
    ∷ real (parabola one one one) zero_f
    ∷ real (parabola zero_f three two) quarter
    ∷ step (later_of 14 (at 31 3 1)) (done (at 32 0 0))
    ∷ step (earlier_of 14 (at 1 0 0)) (done (at 0 3 1))
    ∷ time (timing_of (fraction_of one Same)) (record { moves = On 1; fraction = minus_half })
    ∷ time (timing_of (fraction_of minus_one Earlier)) (record { moves = Back 2; fraction = minus_half })
    ∷ []
