-- A step carries a record: what `earlier` and `later` owe, from what their three calls answer.
-- Assumes nothing.
use mathlib.Core.Path.{◌≡◌, ◌∙◌}
use Prim.Native.Nat.{ℕ}
use Rattle.lists.specs.Told.{Told}
use Rattle.place.specs.declared.Place.{Place}
use Rattle.place.specs.declared.location.Location.{Location}
use Rattle.place.specs.Step.{earlier_of, later_of}
use Rattle.place.specs.Agrees.{last_trial, record_by, record_number, carried, earlier_location, later_location}

module _ (n : ℕ) (l : Location) {a : Told Location} {number : ℕ} {step : Told Place} where
  pub carried_earlier : a ≡ carried number l step → number ≡ record_by (last_trial n) n l → step ≡ earlier_of n l.place
      → a ≡ earlier_location n l
  unfolding earlier_location record_number
  carried_earlier e f g = e ∙ rw (f, g)

  pub carried_later : a ≡ carried number l step → number ≡ record_by (last_trial n) n l → step ≡ later_of n l.place
      → a ≡ later_location n l
  unfolding later_location record_number
  carried_later e f g = e ∙ rw (f, g)
