-- Six trials one after the other are the reading.
--     in_turn_law         a trial counts only where none before it passed: the last holds the first that passed
--     reading_by      with what clears the messages' own remainders, as far as the level asks, the reading is that of the search
--     reading_first   of the two messages the first bytes are enough
--     any_finds       what clears a remainder is that at every level
-- Assumes nothing.
use mathlib.Core.Path.{◌≡◌, refl, sym, ap, ◌∙◌}
use mathlib.Core.Bool.{Bool, true, false, ◌&&◌, not}
use mathlib.Core.List.{List, [], ◌∷◌}
use Prim.Native.Nat.{ℕ, ◌<◌}
use native.Mathlib.Omega.{arith}
use borrow.Author.Tests.{leb-true}
use lib.Dec.{leb, eqb}
use lib.ListN.{length, get_or}
use Rattle.annex10.specs.Remainder.{remainder}
use Rattle.annex10.specs.Any.{clearing_any, only}
use Rattle.annex10.specs.declared.Found.{Found}
use Rattle.annex10.specs.declared.Found.TheVariants.{At, Nothing}
use Rattle.annex10.proofs.Any.{any_found, only_any}
use Rattle.annex10.proofs.Positions.{proper_inside}
use Rattle.annex10.proofs.Unique.{apart_14}
use Rattle.place.specs.declared.Place.{Place}
use Rattle.place.specs.declared.Slicer.{Slicer}
use Rattle.place.specs.declared.Slicer.TheVariants.{Coherent, Noncoherent}
use Rattle.place.specs.declared.location.Location.{Location}
use Rattle.search.specs.declared.Tried.{Tried}
use Rattle.search.specs.declared.Tried.TheVariants.{Pass, Fail}
use Rattle.search.specs.Kinds.{Kind, long}
use Rattle.search.specs.Trials.{checked, cleared, given, six_trials, differ, trials, first, reading}
use Rattle.search.proofs.Staging.{unasked, swap}
use Rattle.receiver.specs.Inner.{found_inside, Finds, or_try}
use Rattle.receiver.proofs.Trying.{same_checked}

one_by_one : (x1 x2 x3 x4 x5 x6 : Tried) {t1 t2 t3 t4 t5 t6 : Tried}
    → t1 ≡ or_try Fail x1 → t2 ≡ or_try t1 x2 → t3 ≡ or_try t2 x3 → t4 ≡ or_try t3 x4 → t5 ≡ or_try t4 x5 → t6 ≡ or_try t5 x6
    → t6 ≡ first (x1 ∷ x2 ∷ x3 ∷ x4 ∷ x5 ∷ x6 ∷ [])
unfolding or_try
one_by_one x1 x2 x3 x4 x5 x6 e1 e2 e3 e4 e5 e6 = e6 ∙ rw (e5, e4, e3, e2, e1) (go x1 x2 x3 x4 x5 x6)
  where
    go : (x1 x2 x3 x4 x5 x6 : Tried) → or_try (or_try (or_try (or_try (or_try (or_try Fail x1) x2) x3) x4) x5) x6 ≡ first (x1 ∷ x2 ∷ x3 ∷ x4 ∷ x5 ∷ x6 ∷ [])
    go (Pass r) x2 x3 x4 x5 x6 = refl
    go Fail (Pass r) x3 x4 x5 x6 = refl
    go Fail Fail (Pass r) x4 x5 x6 = refl
    go Fail Fail Fail (Pass r) x5 x6 = refl
    go Fail Fail Fail Fail (Pass r) x6 = refl
    go Fail Fail Fail Fail Fail (Pass r) = refl
    go Fail Fail Fail Fail Fail Fail = refl

-- what passed before stands
pub stays : (t x : Tried) {r : Location} → t ≡ Pass r → t ≡ or_try t x
unfolding or_try
stays t x e = e ∙ sym (ap (λ (u : Tried). or_try u x) e)

given_true : (t : Tried) → given true t ≡ t
unfolding given
given_true t = refl

given_both : (a b : Bool) (t : Tried) → given (a && b) t ≡ given a (given b t)
unfolding given
given_both true b t = refl
given_both false b t = refl

-- four and six: whether trials 4 and 6 are made
module _ (kind : Kind) (level : ℕ) (p : Place) (coherent noncoherent : List ℕ) (c d : ℕ → Found) (apart : Bool) where
  pub in_turn_law : {four six : Bool} {t1 t2 t3 t4 t5 t6 : Tried} → four ≡ (leb 1 level && apart) → six ≡ (leb 2 level && apart)
      → t1 ≡ or_try Fail (given true (checked kind p 1 Coherent coherent (c 0)))
      → t2 ≡ or_try t1 (given true (checked kind p 2 Noncoherent noncoherent (d 0)))
      → t3 ≡ or_try t2 (given (leb 1 level) (checked kind p 3 Coherent coherent (c 1)))
      → t4 ≡ or_try t3 (given four (checked kind p 4 Noncoherent noncoherent (d 1)))
      → t5 ≡ or_try t4 (given (leb 2 level) (checked kind p 5 Coherent coherent (c 2)))
      → t6 ≡ or_try t5 (given six (checked kind p 6 Noncoherent noncoherent (d 2)))
      → t6 ≡ first (six_trials kind level p coherent noncoherent c d apart)
  unfolding six_trials
  in_turn_law {four} {six} f s e1 e2 e3 e4 e5 e6 =
      let u : given four (checked kind p 4 Noncoherent noncoherent (d 1)) ≡ given (leb 1 level) (given apart (checked kind p 4 Noncoherent noncoherent (d 1)))
      = rw f (given_both (leb 1 level) apart _) in
      let v : given six (checked kind p 6 Noncoherent noncoherent (d 2)) ≡ given (leb 2 level) (given apart (checked kind p 6 Noncoherent noncoherent (d 2)))
      = rw s (given_both (leb 2 level) apart _) in
      one_by_one _ _ _ _ _ _ (e1 ∙ ap (or_try Fail) (given_true _)) (e2 ∙ ap (or_try _) (given_true _)) e3 (e4 ∙ ap (or_try _) u) e5 (e6 ∙ ap (or_try _) v)

-- with what clears the messages' own remainders the reading is that of the search
module _ (kind : Kind) (level : ℕ) (p : Place) (coherent noncoherent : List ℕ) where
  -- a trial that the level asks for has what it looks for; another is not made
  asked : (n number : ℕ) (slicer : Slicer) (bits : List ℕ) {c : Found} → Finds kind level (remainder bits) c
      → given (leb n level) (checked kind p number slicer bits (only c n)) ≡ given (leb n level) (checked kind p number slicer bits (cleared kind bits n))
  unfolding cleared
  asked n number slicer bits {c} f = go (leb n level) refl
    where
      go : (b : Bool) → leb n level ≡ b → given b (checked kind p number slicer bits (only c n)) ≡ given b (checked kind p number slicer bits (cleared kind bits n))
      go true e = ap (λ (o : Found). given true (checked kind p number slicer bits o)) (f.each n (leb-true n level e))
      go false e = unasked (checked kind p number slicer bits (only c n)) ∙ sym (unasked (checked kind p number slicer bits (cleared kind bits n)))

  within : (b : Bool) (n number : ℕ) (slicer : Slicer) (bits : List ℕ) {c : Found} → Finds kind level (remainder bits) c
      → given (leb n level) (given b (checked kind p number slicer bits (only c n))) ≡ given (leb n level) (given b (checked kind p number slicer bits (cleared kind bits n)))
  within b n number slicer bits {c} f =
      swap (leb n level) b (checked kind p number slicer bits (only c n)) ∙ ap (given b) (asked n number slicer bits f)
      ∙ swap b (leb n level) (checked kind p number slicer bits (cleared kind bits n))

  at_once : (number : ℕ) (slicer : Slicer) (bits : List ℕ) {c : Found} → Finds kind level (remainder bits) c
      → checked kind p number slicer bits (only c 0) ≡ checked kind p number slicer bits (cleared kind bits 0)
  unfolding cleared
  at_once number slicer bits f = ap (checked kind p number slicer bits) (f.each 0 (omega arith))

  pub reading_by : {c d : Found} {apart : Bool} → Finds kind level (remainder coherent) c → Finds kind level (remainder noncoherent) d
      → apart ≡ not (eqb (remainder coherent) (remainder noncoherent))
      → first (six_trials kind level p coherent noncoherent (only c) (only d) apart) ≡ reading kind level p coherent noncoherent
  unfolding reading trials six_trials differ
  reading_by {c} {d} f g s =
      rw (
        s,
        at_once 1 Coherent coherent f,
        at_once 2 Noncoherent noncoherent g,
        asked 1 3 Coherent coherent f,
        within (not (eqb (remainder coherent) (remainder noncoherent))) 1 4 Noncoherent noncoherent g,
        asked 2 5 Coherent coherent f,
        within (not (eqb (remainder coherent) (remainder noncoherent))) 2 6 Noncoherent noncoherent g,
      )

-- of the two messages the trials have their first bytes
pub reading_first : (kind : Kind) (level : ℕ) (p : Place) (coherent noncoherent : List ℕ) {a b : ℕ} {c d : Found} {apart : Bool} {t : Tried}
    → 0 < length coherent → 0 < length noncoherent → a ≡ get_or coherent 0 0 → b ≡ get_or noncoherent 0 0
    → Finds kind level (remainder coherent) c → Finds kind level (remainder noncoherent) d → apart ≡ not (eqb (remainder coherent) (remainder noncoherent))
    → t ≡ first (six_trials kind level p (a ∷ []) (b ∷ []) (only c) (only d) apart) → t ≡ reading kind level p coherent noncoherent
unfolding six_trials
reading_first kind level p coherent noncoherent {a} {b} {c} {d} h g ea eb f e s et =
    et
    ∙ rw (
      same_checked kind p coherent 1 Coherent (only c 0) h ea,
      same_checked kind p noncoherent 2 Noncoherent (only d 0) g eb,
      same_checked kind p coherent 3 Coherent (only c 1) h ea,
      same_checked kind p noncoherent 4 Noncoherent (only d 1) g eb,
      same_checked kind p coherent 5 Coherent (only c 2) h ea,
      same_checked kind p noncoherent 6 Noncoherent (only d 2) g eb,
    )
    (reading_by kind level p coherent noncoherent f e s)

-- what clears a remainder is known at every level
any_inside : (r : ℕ) → found_inside long (clearing_any 14 r) ≡ true
unfolding long
any_inside r = go (clearing_any 14 r) refl
  where
    go : (o : Found) → clearing_any 14 r ≡ o → found_inside long o ≡ true
    go Nothing e = refl
    go (At ρ) e = proper_inside 14 ρ (any_found 14 r e).proper

pub any_finds : (level r : ℕ) {c : Found} → c ≡ clearing_any 14 r → Finds long level r c
unfolding long
any_finds level r e = record { each = λ n l. ap (λ (o : Found). only o n) e ∙ only_any 14 r apart_14 n; lies = ap (found_inside long) e ∙ any_inside r }
