-- A location: when its trial, its slicer and its positions agree, what is refused of it, and its neighbours.
-- Trials 1 and 2 repair nothing, 3 and 4 one position, 5 and 6 two; the first of each pair reads the coherent slicer's bits.
-- Assumes nothing.
use Rattle.std.specs.Prelude.{◌≡◌, Bool, true, ◌&&◌, cond, ℕ, ◌+◌, ◌*◌, eqb, leb}
use Rattle.lists.specs.Told.{Told, tell, and_then}
use Rattle.annex10.specs.Repair.{count, inside}
use Rattle.annex10.specs.declared.Repairs.{Repairs}
use Rattle.place.specs.declared.Place.{Place}
use Rattle.place.specs.declared.Slicer.{Slicer}
use Rattle.place.specs.declared.Slicer.TheVariants.{Coherent, Noncoherent}
use Rattle.place.specs.declared.location.Location.{Location}
use Rattle.place.specs.Step.{within, earlier_of, later_of}

-- 0 for the coherent slicer, 1 for the other
abbrev pub side : Slicer → ℕ
side Coherent = 0
side Noncoherent = 1

-- the number of the trial that looks for so many positions in a slicer's bits: 1 to 6
abbrev pub trial_of : Slicer → Repairs → ℕ
trial_of slicer ρ = 1 + 2 * count ρ + side slicer

-- the record names the trial that names its slicer and so many positions; two equal positions are two
unfoldable pub agrees : Location → Bool
agrees l = eqb l.trial (trial_of l.slicer l.repairs)

-- the last trial that is made for a message of n bytes: 6 for 14 bytes, 4 for 7
abbrev pub last_trial : ℕ → ℕ
last_trial n = cond (leb n 7) 4 6

-- it agrees, and its trial is at most `last`
abbrev pub agrees_by : ℕ → Location → Bool
agrees_by last l = agrees l && leb l.trial last

-- 7 unless that holds, 8 unless its positions lie in n bytes
abbrev pub record_by : ℕ → ℕ → Location → ℕ
record_by last n l = cond (agrees_by last l) (cond (inside n l.repairs) 0 8) 7

-- the same for a message of n bytes
unfoldable pub record_number : ℕ → Location → ℕ
record_number n l = record_by (last_trial n) n l

-- what is refused of a location: 7 also where the message does not end within the window
unfoldable pub location_number : ℕ → Location → ℕ
location_number n l = cond (within n l.place) (record_number n l) 7

-- the same reading at another place
abbrev pub moved_to : Location → Place → Location
moved_to l p = record { place = p; trial = l.trial; slicer = l.slicer; repairs = l.repairs }

-- the same reading where a step leads to
abbrev pub carried : ℕ → Location → Told Place → Told Location
carried number l step = and_then step (λ p. tell number (moved_to l p))

-- one sample earlier, and one later
unfoldable pub earlier_location : ℕ → Location → Told Location
earlier_location n l = carried (record_number n l) l (earlier_of n l.place)

unfoldable pub later_location : ℕ → Location → Told Location
later_location n l = carried (record_number n l) l (later_of n l.place)

-- what a neighbour m of a location l has of it: all but the place; and it is not refused itself
pub record Kept (n : ℕ) (l m : Location) : Type 0 where
  pub trial : m.trial ≡ l.trial
  pub slicer : m.slicer ≡ l.slicer
  pub repairs : m.repairs ≡ l.repairs
  pub agreed : agrees m ≡ true
  pub taken : location_number n m ≡ 0
