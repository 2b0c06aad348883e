-- Symbol sums: what `running_sums`, `symbols_of_sums` and `accumulate_symbols` answer. A row of complex numbers is a list of floats, re then im.
-- Assumes nothing.
use Rattle.std.specs.Prelude.{List, cond, ℕ, zero, suc, ◌+◌, ◌*◌, ◌/◌, ◌%◌, eqb, get_or, length, Float}
use Rattle.std.specs.Float.{nan}
use Rattle.lists.specs.From.{tabulate}
use Rattle.math.specs.declared.Complex.{Complex}
use Rattle.math.specs.Complex.{plus_of, zero_of}

-- complex number j of a row
unfoldable pub complex_at : List Float → ℕ → Complex
complex_at xs j = record { re = get_or xs (2 * j) nan; im = get_or xs (2 * j + 1) nan }

-- the sum of the n complex numbers of a row from number j on, in order, from 0.0
unfoldable pub sum_from : List Float → ℕ → ℕ → Complex
sum_from xs j zero = zero_of
sum_from xs j (suc n) = plus_of (sum_from xs j n) (complex_at xs (j + n))

-- re is part 0, im is part 1
abbrev pub part_of : ℕ → Complex → Float
part_of c z = cond (eqb c 0) z.re z.im

-- number i of the sums: part i % 2 of the sum of the four samples from number i / 2 on
unfoldable pub sum_part : List Float → ℕ → Float
sum_part samples i = part_of (i % 2) (sum_from samples (i / 2) 4)

-- the sums of a window, one for each sample that they can start with
unfoldable pub sums_of : List Float → List Float
sums_of samples = tabulate 2304 (sum_part samples)

-- what `running_sums` answers, and what stands in the sums then: 2,310 numbers, else 2; 2,304 sums, else 3
unfoldable pub summed : List Float → List Float → ℕ × List Float
summed samples sums =
    cond (eqb (length samples) 2310)
    (cond (eqb (length sums) 2304) (0, sums_of samples)
    (3, sums))
    (2, sums)

-- symbol n of clock phase k: samples 4n+k to 4n+k+3
unfoldable pub symbol_of : List Float → ℕ → ℕ → Complex
symbol_of samples k n = sum_from samples (4 * n + k) 4

-- number i of the symbols: part i % 2 of symbol i / 2 % 288 of phase i / 576
unfoldable pub symbol_part : List Float → ℕ → Float
symbol_part samples i = part_of (i % 2) (symbol_of samples (i / 576) (i / 2 % 288))

-- the symbols of a window: 4 rows of 288 symbols, one for each phase
unfoldable pub symbols_of : List Float → List Float
symbols_of samples = tabulate 2304 (symbol_part samples)

-- the same from the sums: symbol n of phase k is the sum that starts with sample 4n+k
unfoldable pub symbol_in : List Float → ℕ → Float
symbol_in sums i = get_or sums (2 * (4 * (i / 2 % 288) + i / 576) + i % 2) nan

unfoldable pub symbols_in : List Float → List Float
symbols_in sums = tabulate 2304 (symbol_in sums)

-- what `symbols_of_sums` answers, and what stands in the symbols then: 2,304 sums, else 2; 2,304 symbol parts, else 3
unfoldable pub set_out : List Float → List Float → ℕ × List Float
set_out sums symbols =
    cond (eqb (length sums) 2304)
    (cond (eqb (length symbols) 2304) (0, symbols_in sums)
    (3, symbols))
    (2, symbols)

-- what `accumulate_symbols` answers, and what stands in the symbols then
unfoldable pub accumulated : List Float → List Float → ℕ × List Float
accumulated samples symbols =
    cond (eqb (length samples) 2310)
    (cond (eqb (length symbols) 2304) (0, symbols_of samples)
    (3, symbols))
    (2, symbols)
