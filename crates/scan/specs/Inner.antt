-- What private functions compute: no public contract cites it.
-- Assumes nothing.
use Rattle.std.specs.Prelude.{◌≡◌, ℕ, ◌+◌, ◌*◌, ◌<◌, ◌≤◌, Bool, cond, ◌||◌, List, fold, length, get_or, replicate, ◌==◌, bit_or, bit_xor, nat_lt, slice_index, slice_index_or, Float}
use Rattle.std.specs.Float.{nan}
use Rattle.std.specs.Float.Ieee.{lt}
use Rattle.lists.specs.From.{tabulate}
use Rattle.lists.specs.Bits.{as_bit, value}
use Rattle.math.specs.Complex.{norm_of}
use Rattle.annex10.specs.Remainder.{bring, divide}
use Rattle.kernels.specs.Symbols.{complex_at}
use Rattle.scan.specs.Sieve.{lane_of}
use Rattle.scan.specs.Exact.{clean_at}

-- ---- rows

-- the real parts and the norms of sums
unfoldable pub reals_of : List Float → List Float
reals_of sums = tabulate 1152 (λ (i : ℕ). get_or sums (2 * i) nan)

unfoldable pub norms_of : List Float → List Float
norms_of sums = tabulate 1152 (λ (i : ℕ). norm_of (complex_at sums i))

-- bit p of a row: its number p is greater than that four later; 0 where there is none
unfoldable pub bit_in : List Float → ℕ → ℕ
bit_in row p = cond (nat_lt (p + 4) 1152) (as_bit (lt (slice_index_or row (p + 4) nan) (slice_index_or row p nan))) 0

unfoldable pub bits_of : List Float → List ℕ
bits_of row = tabulate 1152 (bit_in row)

-- bits of a window, one for each sample
pub record Digits (bits : List ℕ) : Type 0 where
  pub size : length bits ≡ 1152
  pub each : (i : ℕ) → slice_index bits i < 2

-- ---- remainders

-- there is a row of messages of n bytes at so many starting samples, from sample 8 on, and all end within the window
pub record Span (n many : ℕ) : Type 0 where
  pub bytes : n ≤ 14
  pub row : 8 ≤ many
  pub ends : many + 64 * n ≤ 1152

-- x^(8 n + 24) modulo the generator: with it a bit leaves a message of n bytes
unfoldable pub leaving_power : ℕ → ℕ
leaving_power n = divide 1 (replicate (8 * n + 24) 0)

-- a remainder, one bit on, where a bit leaves with this power
unfoldable pub next : ℕ → ℕ → ℕ → ℕ → ℕ
next power crc leaving entering = bit_xor (bit_xor (bring crc 0) (divide entering (replicate 24 0))) (leaving * power)

-- the number that the first m bits of byte i write, of the message that starts with sample 8 + t
unfoldable pub byte_in : ℕ → ℕ → List ℕ → ℕ → ℕ
byte_in i m bits t = value (λ (j : ℕ). slice_index bits (8 + t + 8 * j)) (8 * i) m

-- ---- lists

-- marks, one for each starting sample: 1 where the place that starts there is let through
pub record Marks (many : ℕ) (marks : List ℕ) : Type 0 where
  pub size : length marks ≡ many
  pub each : (i : ℕ) → slice_index marks i < 2

-- place k is marked
unfoldable pub marked : List ℕ → ℕ → Bool
marked marks k = slice_index marks (lane_of k) == 1

-- the marks, joined: 0 where none is set
abbrev pub any_of : List ℕ → ℕ
any_of marks = fold bit_or 0 marks

-- the marks of the exact places
unfoldable pub exact_mark : ℕ → List ℕ → List ℕ → List ℕ → List ℕ → ℕ → ℕ
exact_mark lead coherent noncoherent crcs others i = as_bit (clean_at lead coherent crcs i || clean_at lead noncoherent others i)

unfoldable pub exact_marks : ℕ → ℕ → List ℕ → List ℕ → List ℕ → List ℕ → List ℕ
exact_marks lead many coherent noncoherent crcs others = tabulate many (exact_mark lead coherent noncoherent crcs others)
