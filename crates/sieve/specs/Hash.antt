-- The hash that a caller may lend: it only lets through. The lowest bits of a remainder choose a displacement, which moves some of the
-- upper bits to a slot, and the slot names the low bits of the remainder that owns it. What it names of the positions behind a remainder
-- plays no part here: it is checked before it is taken.
-- Assumes nothing.
use Rattle.std.specs.Prelude.{◌≡◌, ℕ, ◌/◌, ◌^◌, min, Bool, cond, ◌&&◌, ◌||◌, ◌⊎◌, List, [], ◌++◌, map, length, take, drop, ◌==◌, bit_and, bit_xor, slice_index}
use Rattle.lists.specs.Told.{Told}
use Rattle.sieve.specs.declared.hash.Shape.{Shape}
use Rattle.sieve.specs.Repairable.{refused_in, repairable_into}
use Rattle.sieve.specs.Tables.{one_displacements, one_owners, one_positions, two_displacements, two_owners}

-- of one error, and of one or two
abbrev pub at_one : Shape
at_one = record { index = 127; shift = 15; slots = 511; low = 65535 }

abbrev pub at_two : Shape
at_two = record { index = 2047; shift = 11; slots = 8191; low = 4095 }

-- the slot of a remainder
abbrev pub slot_of : Shape → List ℕ → ℕ → ℕ
slot_of s ds r = bit_xor (bit_and (r / 2 ^ s.shift) s.slots) (slice_index ds (bit_and r s.index))

-- a remainder owns its slot
unfoldable pub lets : Shape → List ℕ → List ℕ → ℕ → Bool
lets s ds os r = bit_and (slice_index os (slot_of s ds r)) s.low == bit_and r s.low

-- what is asked in place of a remainder: nothing clears 2^24
unfoldable pub asks : Shape → List ℕ → List ℕ → ℕ → ℕ
asks s ds os r = cond (lets s ds os r) r (cond (r == 0) 0 (2 ^ 24))

-- both hashes, that of one error in front; the positions of its slots stand behind the displacements
unfoldable pub hash_displacements : List ℕ
hash_displacements = one_displacements ++ (two_displacements ++ one_positions)

unfoldable pub hash_owners : List ℕ
hash_owners = one_owners ++ two_owners

-- written to lent memory of their size, else 3
unfoldable pub hash_into : List ℕ → List ℕ → ℕ × List ℕ × List ℕ
hash_into ds os = cond (length ds == 2688 && length os == 8704) (0, hash_displacements, hash_owners) (3, ds, os)

-- nothing is lent, or as many numbers as the hash has
unfoldable pub hash_fits : List ℕ → List ℕ → Bool
hash_fits ds os = (length ds == 0 && length os == 0) || (length ds == 2688 && length os == 8704)

-- nothing is lent, or the hash
abbrev pub Hashed : List ℕ → List ℕ → Type 0
Hashed ds os = ((ds ≡ []) × (os ≡ [])) ⊎ ((ds ≡ hash_displacements) × (os ≡ hash_owners))

-- the remainders as they are asked for, by what is lent
unfoldable pub asked_in : ℕ → List ℕ → List ℕ → List ℕ → List ℕ
asked_in level ds os crcs =
    cond (length os == 8704)
    (cond (level == 1) (map (asks at_one (take 128 ds) (take 512 os)) crcs) (map (asks at_two (take 2048 (drop 128 ds)) (drop 512 os)) crcs))
    crcs

-- the repairable places of what is asked; a hash that does not fit: 2
unfoldable pub sieved_into : ℕ → ℕ → ℕ → ℕ → List ℕ → List ℕ → List ℕ → List ℕ → List ℕ → List ℕ → Told ℕ × List ℕ × List ℕ
sieved_into n most many level ds os crcs others list codes =
    cond (hash_fits ds os)
    (repairable_into n most many level (asked_in (min level most) ds os crcs) (asked_in (min level most) ds os others) list codes)
    (refused_in 2 list codes)
