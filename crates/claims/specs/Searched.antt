-- WHAT IS CLAIMED OF THE SEARCH, step by step, for long messages and for short ones alike: `reading` is the reading of a place, `candidate_at`
-- what survives there, and `best` the search. Whoever asks about a decode alone need not read this.
-- Assumes nothing.
use Rattle.std.specs.Prelude.{◌≡◌, List, ◌↔◌, ℕ, ◌≤◌}
use Rattle.std.proofs.Math.Option.{none, some}
use Rattle.annex10.specs.Repair.{count, repaired}
use Rattle.annex10.specs.declared.Repairs.{Repairs}
use Rattle.annex10.specs.declared.Repairs.TheVariants.{Two}
use Rattle.place.specs.declared.Place.{Place}
use Rattle.place.specs.declared.Slicer.{Slicer}
use Rattle.place.specs.declared.Slicer.TheVariants.{Coherent, Noncoherent}
use Rattle.place.specs.declared.location.Location.{Location}
use Rattle.place.specs.Agrees.{trial_of}
use Rattle.search.specs.declared.Settings.{Settings}
use Rattle.search.specs.declared.Tried.{Tried}
use Rattle.search.specs.declared.Tried.TheVariants.{Pass, Fail}
use Rattle.search.specs.declared.Candidate.{Candidate}
use Rattle.search.specs.Kinds.{Kind}
use Rattle.search.specs.Window.{Window}
use Rattle.search.specs.Trials.{reading}
use Rattle.search.specs.Choice.{candidate_at, best}
use Rattle.claims.specs.Fits.{permitted, Fits, FirstFit, cn0_with, Dropped, Holds, OnlyRepair}
use Rattle.claims.specs.Chosen.{Chosen}
use Rattle.claims.specs.Calls.{NoneHeld}

-- ---- the reading of a place

abbrev pub reading_at : Kind → Settings → Window → Place → Tried
reading_at kind s w p = reading kind (permitted kind s) p (w.bits Coherent p) (w.bits Noncoherent p)

-- The reading is the first that fits.
pub record ReadsFirst (kind : Kind) (s : Settings) (w : Window) (p : Place) : Type 0 where
  -- l is the reading exactly when its repairs, of its slicer, are the first that fit (and it names the place, and the number of their trial)
  pub reads : (l : Location) → (reading_at kind s w p ≡ Pass l)
      ↔ (FirstFit kind s w p l.slicer l.repairs × (l.place ≡ p) × (l.trial ≡ trial_of l.slicer l.repairs))
  -- there is none exactly when nothing fits
  pub fails : (reading_at kind s w p ≡ Fail) ↔ ((z : Slicer) (ρ : Repairs) → ¬ Fits kind s w p z ρ)
  -- there is only one first; and where ρ fits, no other choice of at most two different positions, in whatever order, clears those bits
  pub one_first : (z y : Slicer) (ρ σ : Repairs) → FirstFit kind s w p z ρ → FirstFit kind s w p y σ → (z ≡ y) × (ρ ≡ σ)
  pub only : (z : Slicer) (ρ : Repairs) → Fits kind s w p z ρ → OnlyRepair kind.bytes (w.bits z p) ρ
  -- the order in which two positions are named does not change the message, so that `Fits` asks for one order loses nothing
  pub swapped : (bits : List ℕ) (j k : ℕ) → repaired bits (Two j k) ≡ repaired bits (Two k j)

-- ---- what survives there

-- The fields of a candidate at p, by its slicer and its repairs.
pub record Filled (w : Window) (p : Place) (a : Candidate) : Type 0 where
  pub place : a.location.place ≡ p
  pub trial : a.location.trial ≡ trial_of a.location.slicer a.location.repairs
  pub message : a.message ≡ repaired (w.bits a.location.slicer p) a.location.repairs
  pub prompt : a.prompt ≡ w.prompt p a.message
  pub cn0 : a.cn0 ≡ cn0_with w p a.location.slicer a.location.repairs
  pub undecided : a.undecided ≡ w.undecided a.location.slicer p

pub record KeepsFirst (kind : Kind) (s : Settings) (w : Window) (p : Place) : Type 0 where
  -- a is the surviving reading exactly when the place holds it
  pub survives : (a : Candidate) → (candidate_at kind s w p ≡ some a)
      ↔ (Holds kind s w p a.location.slicer a.location.repairs × Filled w p a)
  -- nothing survives exactly when whatever fits first is dropped
  pub nothing : (candidate_at kind s w p ≡ none) ↔ ((z : Slicer) (ρ : Repairs) → FirstFit kind s w p z ρ → Dropped s w p z ρ)
  -- the first that fits is held if it has at most one position
  pub at_most_one : (z : Slicer) (ρ : Repairs) → FirstFit kind s w p z ρ → count ρ ≤ 1 → Holds kind s w p z ρ

-- ---- the search

-- the settings with another level
abbrev pub at_level : ℕ → Settings → Settings
at_level m s = record { level = m; threshold = s.threshold; second = s.second; distance = s.distance }

pub record Searched (kind : Kind) (s : Settings) (w : Window) : Type 0 where
  pub reads_first : (p : Place) → ReadsFirst kind s w p
  pub keeps_first : (p : Place) → KeepsFirst kind s w p
  -- nothing is returned exactly when no place holds anything; a is returned exactly when it is chosen, and only one is
  pub nothing : (best kind s w ≡ none) ↔ NoneHeld kind s w
  pub returns : (a : Candidate) → (best kind s w ≡ some a)
      ↔ (Chosen kind s w a.location.place a.location.slicer a.location.repairs × Filled w a.location.place a)
  pub one_chosen : (p q : Place) (z y : Slicer) (ρ σ : Repairs) → Chosen kind s w p z ρ → Chosen kind s w q y σ
      → (p ≡ q) × (z ≡ y) × (ρ ≡ σ)
  -- what is returned at one level is returned, all fields included, at every level that permits its repairs
  pub any_level : (a : Candidate) → best kind s w ≡ some a → (m : ℕ) → count a.location.repairs ≤ m → best kind (at_level m s) w ≡ some a
