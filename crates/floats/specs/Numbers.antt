-- 0.0 and 2.0.
-- Assumes nothing.
use Rattle.std.specs.Prelude.{Float}
use Rattle.std.specs.Float.{binary32}
use Rattle.std.specs.Float.Ieee.{of_bits}

abbrev pub zero_f : Float
zero_f = of_bits binary32 0

abbrev pub two : Float
two = of_bits binary32 0x40000000
