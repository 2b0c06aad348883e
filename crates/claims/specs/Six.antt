-- WHICH OF THE SIX: a location names the trial that found it, and its trial, slicer and positions agree wherever a location is made.
-- Assumes nothing.
use Rattle.std.specs.Prelude.{◌≡◌, true, List, ◌↔◌, ℕ, ◌+◌, ◌*◌, ◌≤◌, get_or, Float}
use Rattle.lists.specs.Told.{done}
use Rattle.annex10.specs.Repair.{count}
use Rattle.place.specs.declared.Place.{Place}
use Rattle.place.specs.declared.Slicer.TheVariants.{Coherent, Noncoherent}
use Rattle.place.specs.declared.location.Location.{Location}
use Rattle.place.specs.Agrees.{agrees, location_number, earlier_location, later_location, Kept}
use Rattle.search.specs.declared.Settings.{Settings}
use Rattle.search.specs.declared.Tried.TheVariants.{Pass, Fail}
use Rattle.search.specs.Kinds.{Kind}
use Rattle.search.specs.Window.{Window}
use Rattle.search.specs.Trials.{trials}
use Rattle.search.specs.When.{prompt_of}
use Rattle.search.specs.Answers.{searched_number, decode_of}

-- l agrees: with the coherent slicer the trial is 1, 3 or 5, for no position, one or two; with the noncoherent slicer it is one more.
pub record Agreed (l : Location) : Type 0 where
  pub coherent : l.slicer ≡ Coherent → l.trial ≡ 1 + 2 * count l.repairs
  pub noncoherent : l.slicer ≡ Noncoherent → l.trial ≡ 2 + 2 * count l.repairs

-- m has all of l but the place, so it agrees exactly when l does.
pub record SameReading (l m : Location) : Type 0 where
  pub trial : m.trial ≡ l.trial
  pub slicer : m.slicer ≡ l.slicer
  pub repairs : m.repairs ≡ l.repairs
  pub agrees_too : agrees m ≡ agrees l

-- l was returned: its trial is at most `last`, and it is taken wherever it is handed in, also where its place must be one that is searched.
pub record Taken (kind : Kind) (last : ℕ) (l : Location) : Type 0 where
  pub agreed : agrees l ≡ true
  pub made : l.trial ≤ last
  pub taken : location_number kind.bytes l ≡ 0
  pub searched : searched_number kind l ≡ 0

-- ALL OF IT, for a kind of message; `last` is the last trial that is made for it: 6, and 4 for short messages.
pub record WhichOfSix (kind : Kind) (last : ℕ) : Type 0 where
  -- what is tested where a location is handed in
  pub tested : (l : Location) → (agrees l ≡ true) ↔ Agreed l
  -- 1. Each of the six steps that passes, the first with k = 0, names the place and itself, and it agrees: whatever bits the slicers read.
  pub steps : (level : ℕ) (p : Place) (coherent noncoherent : List ℕ) (k : ℕ) (l : Location)
      → get_or (trials kind level p coherent noncoherent) k Fail ≡ Pass l → (l.place ≡ p) × (l.trial ≡ k + 1) × (agrees l ≡ true)
  -- 2. A neighbour that is not refused keeps trial, slicer and positions; it agrees, and is not refused itself.
  pub earlier : (l m : Location) → earlier_location kind.bytes l ≡ done m → Kept kind.bytes l m
  pub later : (l m : Location) → later_location kind.bytes l ≡ done m → Kept kind.bytes l m
  -- The prompt of the timing keeps them, whichever neighbour takes over.
  pub prompt : (w : Window) (message : List ℕ) (l : Location) → SameReading l (prompt_of w message l).location
  -- 3. What is returned agrees, and is taken.
  pub returned : (samples : List Float) (s : Settings) (index : ℕ) → (decode_of kind samples s index).number ≡ 0
      → Taken kind last (decode_of kind samples s index).location
