-- Comparisons with b / 2, by the value of a float.
-- Assumes nothing.
use mathlib.Core.Path.{◌≡◌, refl, ap}
use mathlib.Core.Bool.{Bool, not}
use Prim.Native.Nat.{ℕ, ◌*◌, ◌<◌}
use native.Mathlib.Nat.{mul-one}
use lib.Dec.{lit<}
use lib.IntN.{ℤ}
use lib.Ieee.{Float, fin, up, down, below, lt, le}
use lib.Ieee.Exact.{HasValue}
use Rattle.floats.proofs.Compare.{lt_values, le_values}
use Rattle.timing.specs.Subsample.{halves}

module _ (y : Float) (s : Bool) (d c : ℕ) (C : 0 < c) (h : HasValue y s d c) where
  pub half_value : (t : Bool) (b : ℕ) → HasValue (halves t b) t b 2
  half_value t b = (refl, ap (λ (n : ℕ). n * 2) (mul-one b))

  pub lt_half : (t : Bool) (b : ℕ) → lt y (halves t b) ≡ below s (d * 2) t (b * c)
  lt_half t b = lt_values y (halves t b) s d c t b 2 C (lit< tt) h (half_value t b)

  pub half_le : (t : Bool) (b : ℕ) → le (halves t b) y ≡ not (below s (d * 2) t (b * c))
  half_le t b = le_values (halves t b) y t b 2 s d c (lit< tt) C (half_value t b) h

  pub le_half : (t : Bool) (b : ℕ) → le y (halves t b) ≡ not (below t (b * c) s (d * 2))
  le_half t b = le_values y (halves t b) s d c t b 2 C (lit< tt) h (half_value t b)

-- a finite float's own value
pub own : (s : Bool) (m : ℕ) (e : ℤ) → HasValue (fin s m e) s (m * up e) (down e)
own s m e = (refl, refl)
