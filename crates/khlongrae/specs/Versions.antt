-- The number of the interface for C and Rust: it grows by 1 where a signature, a length or the meaning of a field changes.
-- Assumes nothing.
use Rattle.std.specs.Prelude.{ℕ}

abbrev pub version_number : ℕ
version_number = 3
