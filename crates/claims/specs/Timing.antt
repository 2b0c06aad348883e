-- WHEN THE MESSAGE OF AN ANSWER CAME: its index and its fraction of a sample.
-- Assumes nothing.
use Rattle.std.specs.Prelude.{◌≡◌, true, false, cond, List, ℕ, ◌+◌, ◌-◌, ◌*◌, ℤ, pos, negsuc, ◌+ℤ◌, Float}
use Rattle.std.specs.Float.Ieee.{lt, le, is_nan}
use Rattle.timing.specs.Subsample.{halves}
use Rattle.timing.specs.Exact.{LessBy}
use Rattle.search.specs.declared.Answer.{Answer}
use Rattle.search.specs.Kinds.{Kind}
use Rattle.search.specs.Seen.{seen}
use Rattle.search.specs.When.{fraction_at}

-- the fraction before any sample moves: the parabola about the prompt, held to [-1, 1], plus the offset, minus 0.5
abbrev pub fraction_for : Kind → List Float → Answer → Float
fraction_for kind samples a = fraction_at (seen kind samples) a.message a.location

-- how many samples move from it to the index: two back below -1.5, one below -0.5, two on from 1.5, one from 0.5; for a NaN none
abbrev pub moves_for : Float → ℤ
moves_for f =
    cond (lt f (halves true 3)) (negsuc 1)
    (cond (lt f (halves true 1)) (negsuc 0) (cond (le (halves false 3) f) (pos 2) (cond (le (halves false 1) f) (pos 1) (pos 0))))

-- `index` is that of the window's sample 128.
pub record WellTimed (kind : Kind) (samples : List Float) (index : ℕ) (a : Answer) : Type 0 where
  -- the index gains the moves, and the fraction loses them exactly, with nothing rounded; it ends in [-0.5, 0.5)
  pub gained : let p = a.location.place in
      pos a.index ≡ pos (index - 128 + 4 * (2 * p.bit + p.symbol) + p.phase) +ℤ moves_for (fraction_for kind samples a)
  pub lost : is_nan (fraction_for kind samples a) ≡ false → LessBy (moves_for (fraction_for kind samples a)) (fraction_for kind samples a) a.fraction
  pub within : is_nan (fraction_for kind samples a) ≡ false
      → (le (halves true 1) a.fraction ≡ true) × (lt a.fraction (halves false 1) ≡ true)
  -- but a NaN stays
  pub nan_stays : is_nan (fraction_for kind samples a) ≡ true → is_nan a.fraction ≡ true
