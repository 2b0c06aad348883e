-- The way back from numbers and values to a result.
-- Assumes nothing.
use mathlib.Core.Path.{◌≡◌, refl}
use mathlib.Core.Option.{none, some}
use Rattle.std.specs.Prelude.{ℕ, zero, suc, Result, Ok, Err}
use Rattle.lists.specs.Told.{Told}
use Rattle.refusals.specs.declared.Refusal.{Refusal}
use Rattle.refusals.specs.declared.Refusal.TheVariants.{Input, Output, Level, Threshold, Index, Place, Position, HalfWidth, Malformed}
use Rattle.refusals.specs.Refusals.{told, told_number}

-- the refusal of a number; any other is the last
abbrev pub refusal_of : ℕ → Refusal
refusal_of (suc (suc zero)) = Input
refusal_of (suc (suc (suc zero))) = Output
refusal_of (suc (suc (suc (suc zero)))) = Level
refusal_of (suc (suc (suc (suc (suc zero))))) = Threshold
refusal_of (suc (suc (suc (suc (suc (suc zero)))))) = Index
refusal_of (suc (suc (suc (suc (suc (suc (suc zero))))))) = Place
refusal_of (suc (suc (suc (suc (suc (suc (suc (suc zero)))))))) = Position
refusal_of (suc (suc (suc (suc (suc (suc (suc (suc (suc zero))))))))) = HalfWidth
refusal_of n = Malformed

abbrev pub untold : {A : Type 0} → Told A → Result A Refusal
untold (n, some v) = Ok v
untold (n, none) = Err (refusal_of n)

pub told_back : {A : Type 0} (r : Result A Refusal) → untold (told r) ≡ r
told_back (Ok v) = refl
told_back (Err Input) = refl
told_back (Err Output) = refl
told_back (Err Level) = refl
told_back (Err Threshold) = refl
told_back (Err Index) = refl
told_back (Err Place) = refl
told_back (Err Position) = refl
told_back (Err HalfWidth) = refl
told_back (Err Malformed) = refl

-- of a result without values the number alone tells all
abbrev pub unnumbered : ℕ → Result (Unit {0}) Refusal
unnumbered zero = Ok tt
unnumbered (suc n) = Err (refusal_of (suc n))

pub number_back : (r : Result (Unit {0}) Refusal) → unnumbered (told_number r) ≡ r
number_back (Ok v) = refl
number_back (Err Input) = refl
number_back (Err Output) = refl
number_back (Err Level) = refl
number_back (Err Threshold) = refl
number_back (Err Index) = refl
number_back (Err Place) = refl
number_back (Err Position) = refl
number_back (Err HalfWidth) = refl
number_back (Err Malformed) = refl
