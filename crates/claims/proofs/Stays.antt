-- The choice stays: marks reach the count of what is answered, and nothing else.
-- Assumes nothing.
use mathlib.Core.Path.{◌≡◌, refl, ap, ◌∙◌}
use mathlib.Core.Bool.{Bool, true, false, cond}
use mathlib.Core.List.{List, [], ◌∷◌}
use mathlib.Core.Logic.{inl, inr}
use mathlib.Core.Option.{Option, none, some}
use Prim.Native.Nat.{ℕ}
use lib.Dec.{eqb}
use lib.Ieee.{Float}
use Rattle.place.specs.declared.Place.{Place}
use Rattle.search.specs.declared.Settings.{Settings}
use Rattle.search.specs.declared.Candidate.{Candidate}
use Rattle.search.specs.declared.Answer.{Answer}
use Rattle.search.specs.Kinds.{Kind, places_of}
use Rattle.search.specs.Window.{Window, unmarked}
use Rattle.search.specs.Seen.{seen}
use Rattle.search.specs.Choice.{candidate, candidate_at, beats, better, scan, best}
use Rattle.search.specs.Answers.{or_number, window_number, settings_number, index_number, refused_answer, answer_of, answered, decode_of}
use Rattle.search.proofs.Marks.{Alike, unmarked_alike}
use Rattle.claims.specs.Stays.{unmarked_decode, uncounted, uncounted_reading, uncounted_if, ChoiceStays}

-- ---- a place

place : (kind : Kind) (s : Settings) (w : Window) (p : Place) → uncounted_if (candidate_at kind s w p) ≡ candidate_at kind s (unmarked w) p
unfolding candidate
place kind s w p = go (unmarked_alike w kind s p)
  where
    go : Alike w (candidate_at kind s (unmarked w) p) (candidate_at kind s w p) → uncounted_if (candidate_at kind s w p) ≡ candidate_at kind s (unmarked w) p
    go (inl (e, f)) = rw (e, f)
    go (inr (r, e, f)) = rw (e, f)

-- ---- the search

chosen : (b : Bool) (n h : Candidate) → uncounted_if (cond b (some n) (some h)) ≡ cond b (some (uncounted_reading n)) (some (uncounted_reading h))
chosen true n h = refl
chosen false n h = refl

the_better : (h n : Option Candidate) → uncounted_if (better h n) ≡ better (uncounted_if h) (uncounted_if n)
unfolding beats
the_better none n = refl
the_better (some h) none = refl
the_better (some h) (some n) = chosen (beats n h) n h

scanned : (kind : Kind) (s : Settings) (w : Window) (h : Option Candidate) (ps : List Place)
    → uncounted_if (scan (candidate_at kind s w) h ps) ≡ scan (candidate_at kind s (unmarked w)) (uncounted_if h) ps
unfolding scan
scanned kind s w h [] = refl
scanned kind s w h (p ∷ ps) =
    scanned kind s w (better h (candidate_at kind s w p)) ps
    ∙ ap (λ (x : Option Candidate). scan (candidate_at kind s (unmarked w)) x ps)
    (the_better h (candidate_at kind s w p) ∙ ap (better (uncounted_if h)) (place kind s w p))

search : (kind : Kind) (s : Settings) (w : Window) → uncounted_if (best kind s w) ≡ best kind s (unmarked w)
unfolding best
search kind s w = scanned kind s w none (places_of kind)

-- ---- the decode

timed : (kind : Kind) (samples : List Float) (index : ℕ) (o : Option Candidate)
    → uncounted (answered kind samples index o) ≡ answered kind samples index (uncounted_if o)
unfolding answer_of
timed kind samples index none = refl
timed kind samples index (some c) = refl

taken : (b : Bool) (kind : Kind) (n : ℕ) (a : Answer) → uncounted (cond b a (refused_answer kind n)) ≡ cond b (uncounted a) (refused_answer kind n)
taken true kind n a = refl
taken false kind n a = refl

decode : (kind : Kind) (samples : List Float) (s : Settings) (index : ℕ) → uncounted (decode_of kind samples s index) ≡ unmarked_decode kind samples s index
unfolding decode_of unmarked_decode
decode kind samples s index =
    let n = or_number (window_number samples) (or_number (settings_number s) (index_number index)) in
    taken (eqb n 0) kind n (answered kind samples index (best kind s (seen kind samples)))
    ∙ ap (λ (a : Answer). cond (eqb n 0) a (refused_answer kind n))
    (timed kind samples index (best kind s (seen kind samples)) ∙ ap (answered kind samples index) (search kind s (seen kind samples)))

-- OF EITHER KIND
pub choice_stays : (kind : Kind) → ChoiceStays kind
choice_stays kind = record { place = place kind; search = search kind; decode = decode kind }
