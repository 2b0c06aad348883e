-- What it is to divide a polynomial over GF(2): for the law that `remainder` is what is left of the division by G, and nothing else.
-- Assumes nothing.
use Rattle.std.specs.Prelude.{ℕ, ◌+◌, ◌*◌, ◌^◌, ◌<◌, ◌≡◌, List, [], ◌∷◌, length}
use Rattle.std.specs.Int.Bits.{bit_xor}
use Rattle.annex10.specs.Remainder.{generator, bits}

-- each element is a bit
unfoldable pub AreBits : List ℕ → Type 0
AreBits [] = Unit
AreBits (b ∷ bs) = (b < 2) × AreBits bs

-- the polynomial whose coefficients are v's and then the bits
abbrev pub number : ℕ → List ℕ → ℕ
number v [] = v
number v (b ∷ bs) = number (v * 2 + b) bs

-- p times x^n, plus the product of the polynomial with the n coefficients qs, the highest first, and g: no carries
abbrev pub times : ℕ → List ℕ → ℕ → ℕ
times p [] g = p
times p (q ∷ qs) g = times (bit_xor (p * 2) (q * g)) qs g

-- the message times x^24 is q times G, plus r, and r has a degree below 24
pub record Divided (xs q : List ℕ) (r : ℕ) : Type 0 where
  pub coefficients : AreBits q
  pub as_many : length q ≡ length (bits xs) + 24
  pub low : r < 2 ^ 24
  pub whole : number 0 (bits xs) * 2 ^ 24 ≡ bit_xor (times 0 q generator) r

-- the sum of two strings of equal length, element by element
abbrev pub xors : List ℕ → List ℕ → List ℕ
xors [] ys = []
xors (x ∷ xs) [] = []
xors (x ∷ xs) (y ∷ ys) = bit_xor x y ∷ xors xs ys
