-- The logarithm. A finite float is m * 2 ^ e, negative where its sign says so, and m has `size m` binary digits.
-- Assumes nothing.
use Rattle.std.specs.Prelude.{true, false, cond, ℕ, zero, suc, ◌+◌, ◌-◌, ◌*◌, ◌/◌, ◌^◌, leb, ℤ, pos, negsuc, ◌+ℤ◌, ◌-ℤ◌, ◌*ℤ◌, Float}
use Rattle.std.specs.Float.{nan, inf, fin, binary32}
use Rattle.std.specs.Float.Ieee.{size, mul, of_int}

-- floor (log2 x), of a finite x above 0
unfoldable pub floor_log : Float → ℤ
floor_log nan = pos 0
floor_log (inf s) = pos 0
floor_log (fin s m e) = e +ℤ (pos (size m) -ℤ pos 1)

-- its significand, as a whole number in [2 ^ 31, 2 ^ 32)
unfoldable pub significand : Float → ℕ
significand nan = 0
significand (inf s) = 0
significand (fin s m e) = m * 2 ^ (32 - size m)

-- of t = r * r: the digit, and the r to go on with
abbrev pub digit : ℕ → ℕ
digit t = cond (leb (2 ^ 63) t) 1 0

abbrev pub next : ℕ → ℕ
next t = cond (leb (2 ^ 63) t) (t / 2 ^ 32) (t / 2 ^ 31)

-- k squarings of r, whose digits follow the digits d
unfoldable pub digits : ℕ → ℕ → ℕ → ℕ
digits zero d r = d
digits (suc k) d r = digits k (2 * d + digit (r * r)) (next (r * r))

-- L
unfoldable pub log_steps : Float → ℤ
log_steps x = pos 65536 *ℤ floor_log x +ℤ pos (digits 16 0 (significand x))

-- the f32 12626113 / 2 ^ 38
abbrev pub scale : Float
scale = fin false 12626113 (negsuc 37)

-- NaN gives NaN, 0 of either sign minus infinity, plus infinity itself, what is below 0 NaN; else L times the scale, rounded once
unfoldable pub ten_log10 : Float → Float
ten_log10 nan = nan
ten_log10 (inf true) = nan
ten_log10 (inf false) = inf false
ten_log10 (fin s zero e) = inf true
ten_log10 (fin true (suc m) e) = nan
ten_log10 (fin false (suc m) e) = mul binary32 (of_int binary32 (log_steps (fin false (suc m) e))) scale
