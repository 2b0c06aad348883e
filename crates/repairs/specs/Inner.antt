-- What private functions rest on: no public contract cites it.
-- The rules of the sorted tables: an entry is a remainder in front of the 8 bits of a position. The codes of 7 bytes by those of 14. And
-- positions that are named.
-- Assumes nothing.
use Rattle.std.specs.Prelude.{◌≡◌, Bool, false, ◌&&◌, cond, List, ℕ, ◌-◌, ◌*◌, ◌/◌, ◌%◌, ◌^◌, ◌<◌, ltb, eqb, get_or, length}
use Rattle.lists.specs.From.{tabulate}
use Rattle.annex10.specs.declared.Repairs.{Repairs}
use Rattle.annex10.specs.declared.Repairs.TheVariants.{None, One, Two}
use Rattle.annex10.specs.Repair.{Proper, pattern}

-- the entry at i; its remainder; its position
abbrev pub remainder_at : List ℕ → ℕ → ℕ
remainder_at t i = get_or t i 0 / 256

abbrev pub position_at : List ℕ → ℕ → ℕ
position_at t i = get_or t i 0 % 256

-- the remainders rise
abbrev pub Rising : List ℕ → Type 0
Rising t = (p q : ℕ) → p < q → q < length t → remainder_at t p < remainder_at t q

-- the remainder stands at i, or nowhere
pub record Stands (t : List ℕ) (crc i : ℕ) : Type 0 where
  pub inside : i < length t
  pub own : remainder_at t i ≡ crc

abbrev pub Missing : List ℕ → ℕ → Type 0
Missing t crc = (i : ℕ) → Stands t crc i → ⊥

-- single errors: each entry is the remainder of its own position, the remainders rise, and each position is there
pub record SingleTable (t : List ℕ) : Type 0 where
  pub rises : Rising t
  pub proper : (i : ℕ) → i < length t → Proper 14 (One (position_at t i))
  pub right : (i : ℕ) → i < length t → pattern 14 (One (position_at t i)) ≡ remainder_at t i
  pub there : (j : ℕ) → Proper 14 (One j) → (i : ℕ) × (i < length t) × (remainder_at t i ≡ pattern 14 (One j))

-- double errors, with the second positions in a table of their own: each pair is there whose remainder's top four bits are the part
pub record DoubleTable (part : ℕ) (t second : List ℕ) : Type 0 where
  pub as_long : length second ≡ length t
  pub rises : Rising t
  pub proper : (i : ℕ) → i < length t → Proper 14 (Two (position_at t i) (get_or second i 0))
  pub right : (i : ℕ) → i < length t → pattern 14 (Two (position_at t i) (get_or second i 0)) ≡ remainder_at t i
  pub there : (j k : ℕ) → Proper 14 (Two j k) → pattern 14 (Two j k) / 2 ^ 20 ≡ part
      → (i : ℕ) × (i < length t) × (remainder_at t i ≡ pattern 14 (Two j k))

-- the code of what clears 7 bytes, from that of at most one position that clears 14: its first 56 are not there
unfoldable pub short_code : ℕ → ℕ
short_code code = cond (ltb code 65535) (cond (ltb code (56 * 256)) 65536 (code - 56 * 256)) code

unfoldable pub short_codes : List ℕ → List ℕ
short_codes codes = tabulate (length codes) (λ (i : ℕ). short_code (get_or codes i 0))

-- one position clears a remainder of 14 bytes, or two in their order
unfoldable pub cleared_by : Repairs → ℕ → Bool
cleared_by None r = false
cleared_by (One j) r = ltb j 112 && eqb (pattern 14 (One j)) r
cleared_by (Two j k) r = ltb j k && (ltb k 112 && eqb (pattern 14 (Two j k)) r)
