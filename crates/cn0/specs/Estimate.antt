-- Carrier to noise density, from the prompt power and the noise power. Each operation is rounded.
-- Assumes nothing.
use Rattle.std.specs.Prelude.{false, ◌||◌, cond, pos, Float}
use Rattle.std.specs.Float.{fin, binary32}
use Rattle.std.specs.Float.Ieee.{sub, mul, div, lt, is_nan}
use Rattle.floats.specs.Numbers.{zero_f, two}
use Rattle.cn0.specs.Logarithm.{ten_log10}

-- 15625 * 2 ^ 7
abbrev pub two_million : Float
two_million = fin false 15625 (pos 7)

-- prompt less noise, or 0 where that is negative or NaN; a zero keeps its sign
unfoldable pub signal_of : Float → Float
signal_of d = cond (is_nan d || lt d zero_f) zero_f d

-- the logarithm of x = (signal / noise) * 2,000,000, where the noise is twice the noise power
unfoldable pub cn0_of : Float → Float → Float
cn0_of prompt power =
    let noise = mul binary32 two power in
    ten_log10 (mul binary32 (div binary32 (signal_of (sub binary32 prompt noise)) noise) two_million)
