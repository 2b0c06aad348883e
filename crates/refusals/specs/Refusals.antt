-- What is refused, by its number, and a result in the rules' words.
-- Assumes nothing.
use Rattle.std.specs.Prelude.{ℕ, List, codes, Result, Ok, Err}
use Rattle.lists.specs.Told.{Told, done, refused}
use Rattle.refusals.specs.declared.Refusal.{Refusal}
use Rattle.refusals.specs.declared.Refusal.TheVariants.{Input, Output, Level, Threshold, Index, Place, Position, HalfWidth, Malformed}

-- an input or an output of the wrong length; a level above 2; a threshold that is not finite; an index out of its range; a place, an
-- offset or a bin out of its range; a position behind the message; a half-width too large; an input that is malformed
abbrev pub number : Refusal → ℕ
number Input = 2
number Output = 3
number Level = 4
number Threshold = 5
number Index = 6
number Place = 7
number Position = 8
number HalfWidth = 9
number Malformed = 10

-- a number and values: number 0 with the values, or the refusal's number alone
abbrev pub told : {A : Type 0} → Result A Refusal → Told A
told (Ok v) = done v
told (Err e) = refused (number e)

-- the number alone: 0 is done
abbrev pub told_number : {A : Type 0} → Result A Refusal → ℕ
told_number (Ok v) = 0
told_number (Err e) = number e

-- what is printed of it
abbrev pub refusal_text : Refusal → List ℕ
refusal_text Input = codes "an input of the wrong length"
refusal_text Output = codes "an output of the wrong length"
refusal_text Level = codes "a level above 2"
refusal_text Threshold = codes "a threshold that is not finite"
refusal_text Index = codes "an index below 128 or above 2^63"
refusal_text Place = codes "a place or an offset out of its range"
refusal_text Position = codes "a position behind the message"
refusal_text HalfWidth = codes "a half-width too large"
refusal_text Malformed = codes "an input that is malformed"
