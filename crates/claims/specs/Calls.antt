-- Which calls of a decode are taken, and what its number says.
-- Assumes nothing.
use Rattle.std.specs.Prelude.{◌≡◌, true, List, ◌↔◌, ◌≢◌, ℕ, ◌^◌, ◌≤◌, length, Float}
use Rattle.std.specs.Float.Ieee.Scale.{finite}
use Rattle.annex10.specs.declared.Repairs.{Repairs}
use Rattle.place.specs.declared.Place.{Place}
use Rattle.place.specs.declared.Slicer.{Slicer}
use Rattle.search.specs.declared.Settings.{Settings}
use Rattle.search.specs.Kinds.{Kind}
use Rattle.search.specs.Window.{Window}
use Rattle.search.specs.Seen.{seen}
use Rattle.claims.specs.Chosen.{Held}

-- ---- what is accepted

-- a window has 1,155 samples of two numbers each
abbrev pub RightLength : List Float → Type 0
RightLength samples = length samples ≡ 2310

-- the level is 0, 1 or 2
abbrev pub RightLevel : Settings → Type 0
RightLevel s = s.level ≤ 2

-- both thresholds are numbers, and not infinite
abbrev pub RightThresholds : Settings → Type 0
RightThresholds s = (finite s.threshold ≡ true) × (finite s.second ≡ true)

-- the index is 128 to 2^63
abbrev pub RightIndex : ℕ → Type 0
RightIndex index = (128 ≤ index) × (index ≤ 2 ^ 63)

abbrev pub Accepted : List Float → Settings → ℕ → Type 0
Accepted samples s index = RightLength samples × RightLevel s × RightThresholds s × RightIndex index

-- ---- what the places hold

-- none of them holds anything
abbrev pub NoneHeld : Kind → Settings → Window → Type 0
NoneHeld kind s w = (p : Place) (z : Slicer) (ρ : Repairs) → ¬ Held kind s w p z ρ

-- one of them does
abbrev pub SomeHeld : Kind → Settings → Window → Type 0
SomeHeld kind s w = (p : Place) × (z : Slicer) × (ρ : Repairs) × Held kind s w p z ρ

-- ---- the number: each is given exactly when it is the lowest from 2 up that applies; 1 and 0 where none does

pub record Numbered (kind : Kind) (samples : List Float) (s : Settings) (index number : ℕ) : Type 0 where
  pub two : (number ≡ 2) ↔ ¬ RightLength samples
  pub four : (number ≡ 4) ↔ (RightLength samples × ¬ RightLevel s)
  pub five : (number ≡ 5) ↔ (RightLength samples × RightLevel s × ¬ RightThresholds s)
  pub six : (number ≡ 6) ↔ (RightLength samples × RightLevel s × RightThresholds s × ¬ RightIndex index)
  pub one : (number ≡ 1) ↔ (Accepted samples s index × NoneHeld kind s (seen kind samples))
  pub zero : (number ≡ 0) ↔ (Accepted samples s index × SomeHeld kind s (seen kind samples))
  -- there is no other number
  pub top : number ≤ 6
  pub not_three : number ≢ 3
