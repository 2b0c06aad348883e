-- What the sample answers, and what it leaves: the byte that was held, and the new one.
-- Assumes nothing.
use Rattle.std.specs.Prelude.{ℕ}

abbrev pub exchanged : ℕ → ℕ → ℕ × ℕ
exchanged held x = (held, x)
