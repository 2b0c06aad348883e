-- The parabola over three values: where its greatest value lies, counted from the middle one.
-- Assumes nothing.
use Rattle.std.specs.Prelude.{cond, Float}
use Rattle.std.specs.Float.{binary32}
use Rattle.std.specs.Float.Ieee.{of_bits, add, sub, mul, div, neg, eq}
use Rattle.floats.specs.Numbers.{zero_f, two}

-- -0.5
abbrev pub minus_half : Float
minus_half = neg (of_bits binary32 0x3f000000)

-- d = (late + early) − 2·prompt
abbrev pub bend : Float → Float → Float → Float
bend early prompt late = sub binary32 (add binary32 late early) (mul binary32 two prompt)

-- 0 if d = 0; else (−0.5·(late − early))/d
unfoldable pub parabola : Float → Float → Float → Float
parabola early prompt late =
    cond (eq (bend early prompt late) zero_f) zero_f
    (div binary32 (mul binary32 minus_half (sub binary32 late early)) (bend early prompt late))
