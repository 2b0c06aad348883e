-- WHAT IS CLAIMED OF A DECODE, of long messages or of short ones: `a` is its answer for the samples of a window, the settings `s` and the
-- index of the window's sample 128.
-- Assumes nothing.
use Rattle.std.specs.Prelude.{◌≡◌, true, List, ◌⊎◌, ◌↔◌, ◌≢◌, ℕ, ◌+◌, ◌*◌, ◌≤◌, ◌<◌, replicate, Float}
use Rattle.std.specs.Float.Ieee.{eq, is_nan}
use Rattle.floats.specs.Numbers.{zero_f}
use Rattle.lists.specs.Bits.{bit_at, how_many}
use Rattle.annex10.specs.Repair.{count, Named, repaired}
use Rattle.annex10.specs.declared.Repairs.{Repairs}
use Rattle.annex10.specs.declared.Repairs.TheVariants.{None}
use Rattle.place.specs.declared.Place.{Place}
use Rattle.place.specs.declared.Slicer.{Slicer}
use Rattle.place.specs.declared.Slicer.TheVariants.{Coherent}
use Rattle.place.specs.declared.location.Location.{Location}
use Rattle.place.specs.Agrees.{side}
use Rattle.slicing.specs.Slices.{greater_by}
use Rattle.search.specs.declared.Settings.{Settings}
use Rattle.search.specs.declared.Answer.{Answer}
use Rattle.search.specs.Kinds.{Kind, places_of}
use Rattle.search.specs.Window.{◌∈◌}
use Rattle.search.specs.Seen.{bits_at, seen}
use Rattle.claims.specs.Bits.{first_half, second_half, slicer_bit, coin_toss}
use Rattle.claims.specs.Fits.{Fits, cn0_with, OnlyRepair}
use Rattle.claims.specs.Chosen.{Chosen}
use Rattle.claims.specs.Calls.{Accepted, Numbered}
use Rattle.claims.specs.Timing.{WellTimed}

-- Bit j of a message at l was received: it is 1 and the first half was strictly greater, or 0 and the second was.
abbrev pub Received : List Float → Location → List ℕ → ℕ → Type 0
Received samples l message j =
    let first = first_half samples l.place j in
    let second = second_half samples l.place j in
    ((bit_at message j ≡ 1) × (greater_by l.slicer first second ≡ true)) ⊎ ((bit_at message j ≡ 0) × (greater_by l.slicer second first ≡ true))

-- An answer with number 0, and its location l.
pub record Returned (kind : Kind) (samples : List Float) (s : Settings) (index : ℕ) (a : Answer) (l : Location) : Type 0 where
  -- 1. The place that it names holds the repairs that it names, of the slicer that it names, and they are chosen among all places.
  pub chosen : Chosen kind s (seen kind samples) l.place l.slicer l.repairs
  -- The trial that it names is theirs: 1 for no position, 3 for one, 5 for two, and one more for the noncoherent slicer. None passed before
  -- it: whatever fits at that place has no lower number.
  pub trial : l.trial ≡ 1 + 2 * count l.repairs + side l.slicer
  pub none_before : (y : Slicer) (σ : Repairs) → Fits kind s (seen kind samples) l.place y σ → l.trial ≤ 1 + 2 * count σ + side y
  -- The message is that slicer's bits there, 112 or 56, turned over at these positions; the cn0 is the message's.
  pub message : a.message ≡ repaired (bits_at kind.bytes samples l.slicer l.place) l.repairs
  pub cn0 : a.cn0 ≡ cn0_with (seen kind samples) l.place l.slicer l.repairs
  -- In samples: each of its bits is unlike the comparison of two symbols exactly when its position is named.
  pub differs : (j : ℕ) → j < 8 * kind.bytes → (bit_at a.message j ≢ slicer_bit samples l.slicer l.place j) ↔ Named j l.repairs
  -- Of these bits so many were a coin toss: neither half was strictly greater. A repair takes none of them away.
  pub undecided : a.undecided ≡ how_many (coin_toss samples l.slicer l.place) (8 * kind.bytes)
  pub none_tossed : a.undecided ≡ 0 → (j : ℕ) → j < 8 * kind.bytes → coin_toss samples l.slicer l.place j ≡ 0
  -- Each other bit that is not named was received: the half that it says is strictly greater than the other.
  pub received : (j : ℕ) → j < 8 * kind.bytes → coin_toss samples l.slicer l.place j ≡ 0 → ¬ Named j l.repairs → Received samples l a.message j
  -- 2. No other choice of at most two different positions clears those bits.
  pub only_repair : OnlyRepair kind.bytes (bits_at kind.bytes samples l.slicer l.place) l.repairs
  -- 3. When it came.
  pub timed : WellTimed kind samples index a

-- All fields but the number are zeros: for the slicer and the repairs that means coherent and none.
pub record Zeros (kind : Kind) (a : Answer) : Type 0 where
  pub place : a.location.place ≡ record { bit = 0; phase = 0; symbol = 0 }
  pub trial : a.location.trial ≡ 0
  pub slicer : a.location.slicer ≡ Coherent
  pub repairs : a.location.repairs ≡ None
  pub message : a.message ≡ replicate kind.bytes 0
  pub cn0 : a.cn0 ≡ zero_f
  pub index : a.index ≡ 0
  pub fraction : a.fraction ≡ zero_f
  pub undecided : a.undecided ≡ 0

-- Every answer.
pub record Answered (kind : Kind) (samples : List Float) (s : Settings) (index : ℕ) (a : Answer) : Type 0 where
  -- 4. Its number: 1 exactly when none of the places, 248 or 696, holds anything, 0 exactly when one does, else the refusal.
  pub numbered : Numbered kind samples s index a.number
  pub returned : a.number ≡ 0 → Returned kind samples s index a a.location
  pub zeros : a.number ≢ 0 → Zeros kind a
  -- 5. It cannot keep silent: where anything fits with at most one position, the number is 0, and no more positions are named.
  pub not_silent : Accepted samples s index → (p : Place) → p ∈ places_of kind → (z : Slicer) (ρ : Repairs)
      → Fits kind s (seen kind samples) p z ρ → count ρ ≤ 1 → (a.number ≡ 0) × (count a.location.repairs ≤ count ρ)

-- Two answers are the same: the fraction as a number, or as no number.
pub record Same (a b : Answer) : Type 0 where
  pub number : a.number ≡ b.number
  pub place : a.location.place ≡ b.location.place
  pub trial : a.location.trial ≡ b.location.trial
  pub slicer : a.location.slicer ≡ b.location.slicer
  pub repairs : a.location.repairs ≡ b.location.repairs
  pub message : a.message ≡ b.message
  pub cn0 : a.cn0 ≡ b.cn0
  pub index : a.index ≡ b.index
  pub fraction : (eq a.fraction b.fraction ≡ true) ⊎ ((is_nan a.fraction ≡ true) × (is_nan b.fraction ≡ true))
  pub undecided : a.undecided ≡ b.undecided

-- ALL OF IT: `decode` is what a program answers.
pub record Audited (kind : Kind) (decode : List Float → Settings → ℕ → Answer) : Type 0 where
  pub answered : (samples : List Float) (s : Settings) (index : ℕ) → Answered kind samples s index (decode samples s index)
  -- 6. These claims leave nothing open: whatever else satisfies them is the same answer.
  pub only : (samples : List Float) (s : Settings) (index : ℕ) (b : Answer) → Answered kind samples s index b → Same b (decode samples s index)
