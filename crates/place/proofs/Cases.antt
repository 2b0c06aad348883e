-- The worked cases of steps, and how many places there are.
-- Assumes nothing.
use mathlib.Core.Path.{◌≡◌, refl, sym, ap, ◌∙◌}
use mathlib.Core.List.{List, [], ◌∷◌, map}
use Prim.Native.Nat.{ℕ, ◌*◌}
use lib.ListN.{length}
use Rattle.lists.proofs.Table.{length_tabulate}
use Rattle.lists.specs.Told.{Told, done, refused}
use Rattle.place.specs.declared.Place.{Place}
use Rattle.place.specs.Step.{within, starting_at, earlier_of, later_of}
use Rattle.place.specs.All.{all_places, place_at}
use Rattle.place.proofs.All.{counted}

abbrev at : ℕ → ℕ → ℕ → Place
at b k y = record { bit = b; phase = k; symbol = y }

pub record Case : Type 0 where
  pub found : Told Place
  pub said : Told Place

abbrev pub cases : List Case
cases =
    record { found = later_of 14 (at 31 3 1); said = done (at 32 0 0) }
    ∷ record { found = earlier_of 14 (at 1 0 0); said = done (at 0 3 1) }
    ∷ record { found = earlier_of 14 (at 0 0 0); said = refused 7 }
    ∷ record { found = later_of 14 (at 32 3 0); said = refused 7 }
    ∷ record { found = later_of 14 (at 32 0 1); said = refused 7 }
    ∷ record { found = earlier_of 14 (at 5 4 0); said = refused 7 }
    ∷ record { found = later_of 7 (at 32 3 0); said = done (at 32 0 1) }
    ∷ record { found = later_of 7 (at 87 3 1); said = done (at 88 0 0) }
    ∷ record { found = later_of 7 (at 88 2 0); said = done (at 88 3 0) }
    ∷ record { found = later_of 7 (at 88 3 0); said = refused 7 }
    ∷ record { found = later_of 7 (at 88 0 1); said = refused 7 }
    ∷ record { found = earlier_of 7 (at 1 0 0); said = done (at 0 3 1) }
    ∷ record { found = earlier_of 7 (at 0 0 0); said = refused 7 }
    ∷ []

pub cases_hold : map (λ (c : Case). c.found) cases ≡ map (λ (c : Case). c.said) cases
unfolding earlier_of later_of within starting_at
cases_hold = refl

-- 248 for 31 bit offsets, 696 for 87
pub places_many : (m : ℕ) → length (all_places m) ≡ 8 * m
places_many m = ap length (sym (counted m)) ∙ length_tabulate (8 * m) place_at
