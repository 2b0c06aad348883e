-- Laws of the two powers.
--     summing                                 a loop over the bits of a message
--     power_done, powers_done, around_done    the answers where nothing is refused
-- Assumes nothing.
use mathlib.Core.Path.{◌≡◌}
use mathlib.Core.Bool.{true}
use mathlib.Core.List.{List}
use Prim.Native.Nat.{ℕ, ◌+◌, ◌-◌, ◌*◌, ◌/◌, ◌%◌, ◌^◌, ◌<◌}
use native.Mathlib.Omega.{arith}
use borrow.Author.Tests.{eq-eqb}
use lib.ListN.{length, get_or}
use lib.Ieee.{Float}
use Rattle.lists.specs.Bits.{bit_at}
use Rattle.lists.specs.Told.{done}
use Rattle.annex10.specs.Length.{message_length}
use Rattle.annex10.proofs.Length.{message_small}
use Rattle.math.specs.Complex.{plus_of, norm_of}
use Rattle.math.proofs.Sums.{total_none, total_next}
use Rattle.kernels.specs.Symbols.{complex_at}
use Rattle.powers.specs.Powers.{pulse_norm, middle, empty_norm, power_of, noise_of, power_number, power_at}
use Rattle.powers.specs.Both.{powers_at}
use Rattle.powers.specs.Around.{around_at}

-- the term of bit m of byte k, from that byte
bit_there : (bs : List ℕ) (k m : ℕ) → m < 8 → bit_at bs (8 * k + m) ≡ get_or bs k 0 / 2 ^ (7 - m) % 2
unfolding bit_at
bit_there bs k m h =
    let q : (8 * k + m) / 8 ≡ k = omega arith in
    let r : (8 * k + m) % 8 ≡ m = omega arith in
    rw (q, r)

pub pulse_there : (xs : List Float) (message : List ℕ) (k m : ℕ) → m < 8
    → pulse_norm xs message (8 * k + m) ≡ norm_of (complex_at xs (2 * (8 * k + m) + (1 - get_or message k 0 / 2 ^ (7 - m) % 2)))
unfolding pulse_norm
pulse_there xs message k m h = rw (bit_there message k m h)

pub empty_there : (xs : List Float) (message : List ℕ) (k m : ℕ) → m < 8
    → let i = 8 * (8 * k + m) + 4 * (get_or message k 0 / 2 ^ (7 - m) % 2) + 1 in
    empty_norm xs message (8 * k + m) ≡ norm_of (plus_of (complex_at xs i) (complex_at xs (i + 1)))
unfolding empty_norm middle
empty_there xs message k m h = rw (bit_there message k m h)

-- what a loop over the bits of a message rests on
pub ruleset summing = (message_small, total_none, total_next, pulse_there, empty_there)

-- of a message of n bytes
module _ (n : ℕ) (message : List ℕ) (t : message_length n ≡ true) (e : length message ≡ n) where
  pub power_done : (xs : List Float) → length xs ≡ 32 * n → power_at xs message ≡ done (power_of n xs message)
  unfolding power_at power_number
  power_done xs a = rw (e, t, eq-eqb _ _ a)

  pub powers_done : (xs ys : List Float) → length xs ≡ 32 * n → length ys ≡ 128 * n
      → powers_at xs ys message ≡ done (record { prompt = power_of n xs message; noise = noise_of n ys message })
  unfolding powers_at
  powers_done xs ys a b = rw (e, t, eq-eqb _ _ a, eq-eqb _ _ b)

  pub around_done : (ws xs ys zs : List Float) → length ws ≡ 32 * n → length xs ≡ 32 * n → length ys ≡ 32 * n → length zs ≡ 32 * n
      → around_at ws xs ys zs message ≡ done (record { earliest = power_of n ws message; earlier = power_of n xs message; later = power_of n ys message; latest = power_of n zs message })
  unfolding around_at
  around_done ws xs ys zs a b c d = rw (e, t, eq-eqb _ _ a, eq-eqb _ _ b, eq-eqb _ _ c, eq-eqb _ _ d)
