-- The strongest bin of a spectrum: what `long_fft_max_search` answers.
-- Assumes nothing.
use Rattle.std.specs.Prelude.{List, cond, ℕ, zero, suc, ◌+◌, ◌-◌, ◌*◌, ◌/◌, get_or, length, Float}
use Rattle.std.specs.Float.{nan}
use Rattle.std.specs.Float.Ieee.{lt}
use Rattle.lists.specs.Told.{Told, tell}
use Rattle.floats.specs.Numbers.{zero_f}
use Rattle.carrier.specs.declared.search.Best.{Best}
use Rattle.carrier.specs.Refusals.{search_number}

-- the value of bin j
unfoldable pub bin_at : List Float → ℕ → Float
bin_at s j = get_or s j nan

-- bin j takes over from the holder only if it is strictly greater: not where they are equal, nor where it is NaN
unfoldable pub stronger : Best → ℕ → Float → Best
stronger held j x = cond (lt held.value x) (record { bin = j; value = x }) held

-- the first greatest above 0.0 of the n bins from bin `first` on; `first` and value 0 if there is none
unfoldable pub peak_from : List Float → ℕ → ℕ → Best
peak_from s first zero = record { bin = first; value = zero_f }
peak_from s first (suc n) = stronger (peak_from s first n) (first + n) (bin_at s (first + n))

-- the first greatest above 0.0 in bins N/2 − M to N/2 + M
unfoldable pub peak_of : List Float → ℕ → Best
peak_of s m = peak_from s (length s / 2 - m) (2 * m + 1)

-- what `long_fft_max_search` answers
unfoldable pub search_of : List Float → ℕ → Told Best
search_of s m = tell (search_number (length s) m) (peak_of s m)
