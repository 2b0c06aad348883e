-- What a float is as a number, and that another is so many less with nothing rounded.
-- Assumes nothing.
use Rattle.std.specs.Prelude.{◌≡◌, Bool, cond, ℕ, ◌<◌, ℤ, pos, neg_ℤ, ◌-ℤ◌, ◌*ℤ◌, Float}
use Rattle.std.specs.Float.Ieee.Exact.{HasValue}

-- x is finite, and the fraction n / c
pub record Is (x : Float) (n : ℤ) (c : ℕ) : Type 0 where
  pub negative : Bool
  pub size : ℕ
  pub value : HasValue x negative size c
  pub signed : cond negative (neg_ℤ (pos size)) (pos size) ≡ n

-- y is x less k, exactly
pub record LessBy (k : ℤ) (x y : Float) : Type 0 where
  pub num : ℤ
  pub den : ℕ
  pub above : 0 < den
  pub before : Is x num den
  pub after : Is y (num -ℤ k *ℤ pos den) den
