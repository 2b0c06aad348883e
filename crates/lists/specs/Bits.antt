-- Bits and bytes: the first bit is the top bit of byte 0.
-- Assumes nothing.
use Rattle.std.specs.Prelude.{Bool, true, false, List, ℕ, zero, suc, ◌+◌, ◌-◌, ◌*◌, ◌/◌, ◌%◌, ◌^◌, get_or}
use Rattle.lists.specs.From.{tabulate}

-- a truth as a bit
abbrev pub as_bit : Bool → ℕ
as_bit true = 1
as_bit false = 0

-- bit j of a string of bytes
unfoldable pub bit_at : List ℕ → ℕ → ℕ
bit_at bs j = get_or bs (j / 8) 0 / 2 ^ (7 - j % 8) % 2

-- the number that the n bits f j, f (j + 1), .. write, the first highest
unfoldable pub value : (ℕ → ℕ) → ℕ → ℕ → ℕ
value f j zero = 0
value f j (suc n) = value f j n * 2 + f (j + n)

-- n bytes, whose bits are f 0, f 1, ..
unfoldable pub packed : ℕ → (ℕ → ℕ) → List ℕ
packed n f = tabulate n (λ (k : ℕ). value f (8 * k) 8)

-- how many of the n bits f 0, f 1, .. are 1
unfoldable pub how_many : (ℕ → ℕ) → ℕ → ℕ
how_many f zero = 0
how_many f (suc n) = how_many f n + f n
