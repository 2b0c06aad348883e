-- A positive f32 taken apart, for private functions alone: no public contract cites it.
-- Assumes nothing.
use Rattle.std.specs.Prelude.{◌≡◌, ℕ, ◌^◌, ◌≤◌, ◌<◌, pos, ◌-ℤ◌, Float}
use Rattle.cn0.specs.Logarithm.{floor_log, significand}

-- `place` is floor (log2 x) + 150, which is above 0 at every f32
pub record Placed (x : Float) (place sig : ℕ) : Type 0 where
  pub log : floor_log x ≡ pos place -ℤ pos 150
  pub sign : sig ≡ significand x
  pub low : 2 ^ 31 ≤ sig
  pub high : sig < 2 ^ 32
  pub small : place < 280
