-- The remainder of Mode S, as ICAO Annex 10 Volume IV has it: the message, as a polynomial over GF(2) whose first bit is the
-- highest coefficient, times x^24, divided by the generator G. A polynomial is a number here: its coefficients are the binary digits.
-- Assumes nothing.
use Rattle.std.specs.Prelude.{ℕ, zero, suc, ◌+◌, ◌*◌, ◌/◌, ◌%◌, ◌^◌, List, [], ◌∷◌, ◌++◌, replicate}
use Rattle.std.specs.Int.Bits.{bit_xor}

-- G = x^24 + 0xFFF409: the terms x^24 to x^12, x^10, x^3 and 1
abbrev pub generator : ℕ
generator = 0x1FFF409

-- c is the coefficient of x^24: where it is not 0, the generator is taken away. Over GF(2) that is xor
abbrev pub less : ℕ → ℕ → ℕ
less zero t = t
less (suc c) t = bit_xor t generator

-- one step of the division by hand: r is the remainder so far, of degree below 24, and b the bit that is brought down
abbrev pub bring : ℕ → ℕ → ℕ
bring r b = less ((r * 2 + b) / 2 ^ 24) (r * 2 + b)

-- the division: the bits are brought down one after the other, the highest coefficient first
abbrev pub divide : ℕ → List ℕ → ℕ
divide r [] = r
divide r (b ∷ bs) = divide (bring r b) bs

-- the n low bits of a number, the highest first
abbrev pub bits_of : ℕ → ℕ → List ℕ
bits_of zero x = []
bits_of (suc n) x = (x / 2 ^ n % 2) ∷ bits_of n x

-- the bits of a string of bytes, the top bit of the first byte first
abbrev pub bits : List ℕ → List ℕ
bits [] = []
bits (x ∷ xs) = bits_of 8 x ++ bits xs

-- THE REMAINDER, of a string of any length: 24 zeros after it are the string times x^24
unfoldable pub remainder : List ℕ → ℕ
remainder xs = divide 0 (bits xs ++ replicate 24 0)
