-- The worked cases of the logarithm, and some of the density.
-- Assumes nothing.
use mathlib.Core.Path.{◌≡◌, refl}
use mathlib.Core.Bool.{true, false}
use lib.IntN.{pos, negsuc}
use lib.Ieee.{nan, inf, fin, binary32, sub, mul, div, lt, is_nan, of_int, of_bits, size}
use Rattle.floats.specs.Numbers.{zero_f}
use Rattle.cn0.specs.Logarithm.{floor_log, significand, digits, log_steps, ten_log10}
use Rattle.cn0.specs.Estimate.{signal_of, cn0_of}

-- L of 3 / 2, of 2, and of the smallest f32, 2 ^ -149
pub steps : (log_steps (fin false 3 (negsuc 0)) ≡ pos 38336)
    × (log_steps (fin false 1 (pos 1)) ≡ pos 65536)
    × (log_steps (fin false 1 (negsuc 148)) ≡ negsuc 9764863)
unfolding log_steps floor_log significand digits size
steps = (refl, refl, refl)

-- prompt 7, noise 1; a signal and no noise; neither; a signal of 0; NaN
pub densities : (cn0_of (fin false 7 (pos 0)) (fin false 1 (pos 0)) ≡ of_bits binary32 0x4285fab9)
    × (cn0_of (fin false 7 (pos 0)) (zero_f) ≡ inf false)
    × (cn0_of (zero_f) (zero_f) ≡ nan)
    × (cn0_of (fin false 1 (pos 0)) (fin false 1 (pos 0)) ≡ inf true)
    × (cn0_of nan (fin false 1 (pos 0)) ≡ inf true)
unfolding cn0_of signal_of ten_log10 log_steps floor_log significand digits size sub mul div lt is_nan of_int of_bits
densities = (refl, refl, refl, refl, refl)
