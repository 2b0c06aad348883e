-- Complex numbers of two binary32 floats: each operation is rounded once.
-- Assumes nothing.
use Rattle.std.specs.Prelude.{Float}
use Rattle.std.specs.Float.{binary32}
use Rattle.std.specs.Float.Ieee.{add, mul}
use Rattle.floats.specs.Numbers.{zero_f}
use Rattle.math.specs.declared.Complex.{Complex}

-- zero: both parts are 0.0
abbrev pub zero_of : Complex
zero_of = record { re = zero_f; im = zero_f }

-- the sum: two additions
abbrev pub plus_of : Complex → Complex → Complex
plus_of z w = record { re = add binary32 z.re w.re; im = add binary32 z.im w.im }

-- re·re + im·im: both products are rounded, then the sum
abbrev pub norm_of : Complex → Float
norm_of z = add binary32 (mul binary32 z.re z.re) (mul binary32 z.im z.im)
