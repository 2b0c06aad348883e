-- A place's reading: the six trials, in their order, and the first that passes.
-- Assumes nothing.
use Rattle.std.specs.Prelude.{Bool, true, false, not, cond, List, [], ◌∷◌, ℕ, leb, eqb}
use Rattle.annex10.specs.Remainder.{remainder}
use Rattle.annex10.specs.Repair.{repaired, clearing}
use Rattle.annex10.specs.declared.Found.{Found}
use Rattle.annex10.specs.declared.Found.TheVariants.{At, Nothing}
use Rattle.place.specs.declared.Place.{Place}
use Rattle.place.specs.declared.Slicer.{Slicer}
use Rattle.place.specs.declared.Slicer.TheVariants.{Coherent, Noncoherent}
use Rattle.search.specs.declared.Tried.{Tried}
use Rattle.search.specs.declared.Tried.TheVariants.{Pass, Fail}
use Rattle.search.specs.Kinds.{Kind, good}

-- the positions are repaired; the trial passes if the repaired header is good
unfoldable pub checked : Kind → Place → ℕ → Slicer → List ℕ → Found → Tried
checked kind p number slicer bits Nothing = Fail
checked kind p number slicer bits (At ρ) =
    cond (good kind (repaired bits ρ)) (Pass (record { place = p; trial = number; slicer = slicer; repairs = ρ })) Fail

-- the n positions that clear the bits
unfoldable pub cleared : Kind → List ℕ → ℕ → Found
cleared kind bits n = clearing kind.bytes n (remainder bits)

-- a trial that is made only on a condition
unfoldable pub given : Bool → Tried → Tried
given true t = t
given false t = Fail

-- the six trials at a place. c n and d n are the n positions that clear the coherent and the noncoherent bits; apart: the two remainders differ
unfoldable pub six_trials : Kind → ℕ → Place → List ℕ → List ℕ → (ℕ → Found) → (ℕ → Found) → Bool → List Tried
six_trials kind level p coherent noncoherent c d apart =
    checked kind p 1 Coherent coherent (c 0)
    ∷ checked kind p 2 Noncoherent noncoherent (d 0)
    ∷ given (leb 1 level) (checked kind p 3 Coherent coherent (c 1))
    ∷ given (leb 1 level) (given apart (checked kind p 4 Noncoherent noncoherent (d 1)))
    ∷ given (leb 2 level) (checked kind p 5 Coherent coherent (c 2))
    ∷ given (leb 2 level) (given apart (checked kind p 6 Noncoherent noncoherent (d 2)))
    ∷ []

-- the two remainders differ
unfoldable pub differ : List ℕ → List ℕ → Bool
differ coherent noncoherent = not (eqb (remainder coherent) (remainder noncoherent))

unfoldable pub trials : Kind → ℕ → Place → List ℕ → List ℕ → List Tried
trials kind level p coherent noncoherent =
    six_trials kind level p coherent noncoherent (cleared kind coherent) (cleared kind noncoherent) (differ coherent noncoherent)

-- the first that passes
abbrev pub first : List Tried → Tried
first [] = Fail
first (Pass r ∷ ts) = Pass r
first (Fail ∷ ts) = first ts

unfoldable pub reading : Kind → ℕ → Place → List ℕ → List ℕ → Tried
reading kind level p coherent noncoherent = first (trials kind level p coherent noncoherent)
