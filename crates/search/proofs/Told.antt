-- The way back from a survivor to what was answered.
-- Assumes nothing.
use mathlib.Core.Path.{◌≡◌, refl}
use Rattle.std.specs.Prelude.{ℕ, zero, suc, Result, Ok, Err, Option, Some, None}
use Rattle.refusals.specs.declared.Refusal.{Refusal}
use Rattle.refusals.specs.declared.Refusal.TheVariants.{Input, Output, Level, Threshold, Index, Place, Position, HalfWidth, Malformed}
use Rattle.refusals.proofs.Told.{refusal_of}
use Rattle.search.specs.declared.Candidate.{Candidate}
use Rattle.search.specs.declared.ShortCandidate.{ShortCandidate}
use Rattle.search.specs.Answers.{Survivor}
use Rattle.search.specs.Short.{ShortSurvivor}
use Rattle.search.specs.Told.{survivor_told, short_survivor_told}

abbrev answered : {A : Type 0} → ℕ → A → Result (Option A) Refusal
answered zero c = Ok (Some c)
answered (suc zero) c = Ok None
answered (suc (suc n)) c = Err (refusal_of (suc (suc n)))

abbrev pub survivor_untold : Survivor → Result (Option Candidate) Refusal
survivor_untold x = answered x.number x.candidate

pub survivor_back : (r : Result (Option Candidate) Refusal) → survivor_untold (survivor_told r) ≡ r
survivor_back (Ok (Some c)) = refl
survivor_back (Ok None) = refl
survivor_back (Err Input) = refl
survivor_back (Err Output) = refl
survivor_back (Err Level) = refl
survivor_back (Err Threshold) = refl
survivor_back (Err Index) = refl
survivor_back (Err Place) = refl
survivor_back (Err Position) = refl
survivor_back (Err HalfWidth) = refl
survivor_back (Err Malformed) = refl

abbrev pub short_survivor_untold : ShortSurvivor → Result (Option ShortCandidate) Refusal
short_survivor_untold x = answered x.number x.candidate

pub short_survivor_back : (r : Result (Option ShortCandidate) Refusal) → short_survivor_untold (short_survivor_told r) ≡ r
short_survivor_back (Ok (Some c)) = refl
short_survivor_back (Ok None) = refl
short_survivor_back (Err Input) = refl
short_survivor_back (Err Output) = refl
short_survivor_back (Err Level) = refl
short_survivor_back (Err Threshold) = refl
short_survivor_back (Err Index) = refl
short_survivor_back (Err Place) = refl
short_survivor_back (Err Position) = refl
short_survivor_back (Err HalfWidth) = refl
short_survivor_back (Err Malformed) = refl
