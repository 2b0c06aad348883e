-- Where a place starts, and the places one clock phase earlier and later.
-- A message of n bytes has 16 * n symbols of the window's 288.
-- Assumes nothing.
use Rattle.std.specs.Prelude.{Bool, ◌&&◌, cond, ℕ, ◌+◌, ◌-◌, ◌*◌, ◌/◌, ◌%◌, leb, ltb}
use Rattle.lists.specs.Told.{Told, done, refused}
use Rattle.place.specs.declared.Place.{Place}

-- the symbol that it starts with
abbrev pub symbol_start : Place → ℕ
symbol_start p = 2 * p.bit + p.symbol

-- the sample that it starts with
abbrev pub sample_start : Place → ℕ
sample_start p = 4 * symbol_start p + p.phase

-- the last symbol that a message of n bytes can start with: 64 for 14 bytes, 176 for 7
abbrev pub last_symbol : ℕ → ℕ
last_symbol n = 288 - 16 * n

-- it starts with the symbol `last` or before
abbrev pub starts_by : ℕ → Place → Bool
starts_by last p = leb p.phase 3 && leb p.symbol 1 && leb (symbol_start p) last

-- a message of n bytes at the place ends within the window
unfoldable pub within : ℕ → Place → Bool
within n p = starts_by (last_symbol n) p

-- the place that starts with sample s: 8 samples are a bit, 4 a symbol
unfoldable pub starting_at : ℕ → Place
starting_at s = record { bit = s / 8; phase = s % 4; symbol = s / 4 % 2 }

-- one sample earlier; there is none before sample 0
abbrev pub earlier_by : ℕ → Place → Told Place
earlier_by last p =
    cond (starts_by last p) (cond (ltb 0 (sample_start p)) (done (starting_at (sample_start p - 1))) (refused 7)) (refused 7)

-- one sample later; there is none after clock phase 3 of the last symbol
abbrev pub later_by : ℕ → Place → Told Place
later_by last p =
    cond (starts_by last p)
    (cond (ltb (sample_start p) (4 * last + 3)) (done (starting_at (sample_start p + 1))) (refused 7))
    (refused 7)

-- the same for a message of n bytes
unfoldable pub earlier_of : ℕ → Place → Told Place
earlier_of n p = earlier_by (last_symbol n) p

unfoldable pub later_of : ℕ → Place → Told Place
later_of n p = later_by (last_symbol n) p
