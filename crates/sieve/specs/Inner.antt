-- What private functions rest on: no public contract cites it.
-- Each pattern of at least one and at most so many positions owns its slot of the hash.
-- Assumes nothing.
use Rattle.std.specs.Prelude.{◌≡◌, ℕ, zero, suc, ◌+◌, ◌*◌, ◌^◌, ◌<◌, ◌≤◌, Bool, false, cond, ◌||◌, List, [], ◌∷◌, ◌++◌, length, take, bit_and, nat_lt, slice_index}
use Rattle.annex10.specs.declared.Repairs.{Repairs}
use Rattle.annex10.specs.Repair.{Proper, count, pattern}
use Rattle.sieve.specs.declared.hash.Shape.{Shape}
use Rattle.repairs.specs.Codes.{code_up_to}
use Rattle.scan.specs.Sieve.{kept, lane_of, onto}
use Rattle.sieve.specs.Repairable.{repairable_at}
use Rattle.sieve.specs.Hash.{slot_of, lets, asks}

-- one of the two remainders of place k does
unfoldable pub let_in : Shape → List ℕ → List ℕ → List ℕ → List ℕ → ℕ → Bool
let_in s ds os crcs others k = lets s ds os (slice_index crcs (lane_of k)) || lets s ds os (slice_index others (lane_of k))

-- a hash of so many bits, 16 at most
pub record Shaped (s : Shape) (ds os : List ℕ) : Type 0 where
  pub small : s.shift < 32
  pub few : s.index < length ds
  pub bits : ℕ
  pub width : s.slots < 2 ^ bits
  pub near : (i : ℕ) → i < length ds → slice_index ds i < 2 ^ bits
  pub many : 2 ^ bits ≤ length os
  pub room : 2 ^ bits ≤ 65536

-- what it gives: each remainder has a slot
pub record Slotted (s : Shape) (ds os : List ℕ) : Type 0 where
  pub small : s.shift < 32
  pub few : s.index < length ds
  pub there : (r : ℕ) → slot_of s ds r < length os

pub record Owners (level : ℕ) (s : Shape) (ds os : List ℕ) : Type 0 where
  pub shaped : Shaped s ds os
  pub there : (ρ : Repairs) → Proper 14 ρ → 1 ≤ count ρ → count ρ ≤ level
      → bit_and (slice_index os (slot_of s ds (pattern 14 ρ))) s.low ≡ bit_and (pattern 14 ρ) s.low

-- the first n places are below so many
pub record Within (many : ℕ) (through : List ℕ) (n : ℕ) : Type 0 where
  pub each : (m : ℕ) → m < n → slice_index through m < many

-- what is asked for the first n places, two for each
pub record Gathered (many : ℕ) (s : Shape) (ds os crcs others through asked : List ℕ) (n : ℕ) : Type 0 where
  pub size : length asked ≡ 2 * many
  pub first : (m : ℕ) → m < n → slice_index asked (2 * m) ≡ asks s ds os (slice_index crcs (lane_of (slice_index through m)))
  pub second : (m : ℕ) → m < n → slice_index asked (2 * m + 1) ≡ asks s ds os (slice_index others (lane_of (slice_index through m)))

-- what a hash of some level gives: every place that it lets through, and in place of the two remainders of each two with the same codes,
-- for messages of at most 14 bytes
pub record Sifted (level many : ℕ) (crcs others through asked : List ℕ) (n : ℕ) : Type 0 where
  pub few : n ≤ many
  pub size : length through ≡ many
  pub sizes : length asked ≡ 2 * many
  pub test : ℕ → Bool
  pub places : take n through ≡ kept test many
  pub none : (bytes k : ℕ) → bytes ≤ 14 → test k ≡ false → repairable_at bytes level crcs others k ≡ false
  pub first : (bytes m : ℕ) → bytes ≤ 14 → m < n
      → code_up_to bytes level (slice_index asked (2 * m)) ≡ code_up_to bytes level (slice_index crcs (lane_of (slice_index through m)))
  pub second : (bytes m : ℕ) → bytes ≤ 14 → m < n
      → code_up_to bytes level (slice_index asked (2 * m + 1)) ≡ code_up_to bytes level (slice_index others (lane_of (slice_index through m)))

-- of the first n places those with a code of at least one position, and their codes
unfoldable pub taken : List ℕ → ℕ → Bool
taken told m = nat_lt (slice_index told (2 * m)) 65535 || nat_lt (slice_index told (2 * m + 1)) 65535

unfoldable pub picked : List ℕ → List ℕ → ℕ → List ℕ
picked through told zero = []
picked through told (suc m) = cond (taken told m) (picked through told m ++ (slice_index through m ∷ [])) (picked through told m)

unfoldable pub picked_codes : List ℕ → ℕ → List ℕ
picked_codes told zero = []
picked_codes told (suc m) =
    cond (taken told m) (picked_codes told m ++ (slice_index told (2 * m) ∷ slice_index told (2 * m + 1) ∷ [])) (picked_codes told m)

-- how many, the list, the codes
unfoldable pub kept_in : List ℕ → List ℕ → ℕ → List ℕ → List ℕ → ℕ × List ℕ × List ℕ
kept_in through told n list codes =
    (length (picked through told n), onto (picked through told n) list, onto (picked_codes told n) codes)
