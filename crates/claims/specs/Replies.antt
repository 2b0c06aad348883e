-- A REPLY TO AN INTERROGATOR that has a code of its own, 1 to 127, is a squitter with that code xored into its last 7 bits. Which of them
-- the short search takes: at level 0 none; else the seven codes with one bit set, each with one repair, at the position of that bit.
-- Assumes nothing.
use Rattle.std.specs.Prelude.{◌≡◌, true, List, ◌↔◌, ◌≢◌, ℕ, ◌-◌, ◌^◌, ◌≤◌, ◌<◌, length, get_or, set}
use Rattle.std.specs.Int.Bits.{bit_xor}
use Rattle.annex10.specs.Remainder.{remainder}
use Rattle.annex10.specs.Repair.{repaired}
use Rattle.annex10.specs.declared.Repairs.{Repairs}
use Rattle.annex10.specs.declared.Repairs.TheVariants.{One}
use Rattle.place.specs.declared.Place.{Place}
use Rattle.place.specs.declared.Slicer.{Slicer}
use Rattle.place.specs.declared.Slicer.TheVariants.{Coherent}
use Rattle.search.specs.declared.Settings.{Settings}
use Rattle.search.specs.Kinds.{good, short}
use Rattle.search.specs.Window.{Window}
use Rattle.claims.specs.Fits.{Fits}

-- m is an acquisition squitter
pub record Squitter (m : List ℕ) : Type 0 where
  pub size : length m ≡ 7
  pub clear : remainder m ≡ 0
  pub header : good short m ≡ true

-- the same with a code
unfoldable pub coded : List ℕ → ℕ → List ℕ
coded m code = set m 6 (bit_xor (get_or m 6 0) code)

-- the code whose only bit is at position j of the message: 64 at 49, 32 at 50, .. 1 at 55
abbrev pub OneBit : ℕ → ℕ → Type 0
OneBit code j = (49 ≤ j) × (j ≤ 55) × (code ≡ 2 ^ (55 - j))

pub record Replies : Type 0 where
  -- as it came, no reply has the remainder 0
  pub uncleared : (m : List ℕ) → Squitter m → (code : ℕ) → 1 ≤ code → code < 128 → remainder (coded m code) ≢ 0
  -- one position clears it exactly where the code has that bit and no other
  pub cleared : (m : List ℕ) → Squitter m → (code : ℕ) → 1 ≤ code → code < 128 → (j : ℕ) → j < 56
      → (remainder (repaired (coded m code) (One j)) ≡ 0) ↔ OneBit code j
  -- and that makes the squitter of it that was sent with no code
  pub mended : (m : List ℕ) → Squitter m → (code j : ℕ) → OneBit code j → repaired (coded m code) (One j) ≡ m
  -- So of the replies that a slicer reads at a place no others fit than these,
  pub fits_only : (s : Settings) (w : Window) (p : Place) (z : Slicer) (m : List ℕ) → Squitter m → (code : ℕ) → 1 ≤ code → code < 128
      → w.bits z p ≡ coded m code → (ρ : Repairs) → Fits short s w p z ρ → (j : ℕ) × (ρ ≡ One j) × OneBit code j
  -- and these do, at levels 1 and 2.
  pub fits : (s : Settings) (w : Window) (p : Place) (m : List ℕ) → Squitter m → (code j : ℕ) → OneBit code j
      → w.bits Coherent p ≡ coded m code → 1 ≤ s.level → Fits short s w p Coherent (One j)
