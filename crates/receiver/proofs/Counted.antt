-- A reading whose undecided bits are counted when it is held is the reading of the window.
--     read_taken      what is read at a place is a location that is taken
--     read_counted    it is counted
--     same_taken      the choice between what is held and such a newcomer
-- Assumes nothing.
use Rattle.std.specs.Prelude as code
use mathlib.Core.Path.{◌≡◌, refl, sym, ap, ◌∙◌}
use mathlib.Core.Bool.{true}
use mathlib.Core.List.{List}
use mathlib.Core.Logic.{inl, inr}
use native.Mathlib.Omega.{arith}
use lib.Ieee.{Float}
use Rattle.place.specs.declared.Place.{Place}
use Rattle.place.specs.All.{listed}
use Rattle.place.specs.Agrees.{location_number}
use Rattle.kernels.specs.Symbols.{symbols_of}
use Rattle.search.specs.declared.Settings.{Settings}
use Rattle.search.specs.declared.Candidate.{Candidate}
use Rattle.search.specs.Kinds.{Kind}
use Rattle.search.specs.Window.{Window, unmarked}
use Rattle.search.specs.Seen.{row, window_of, seen}
use Rattle.search.specs.Choice.{candidate, candidate_at, beats}
use Rattle.search.proofs.Marks.{by_symbols, Alike, unmarked_alike}
use Rattle.search.proofs.Locating.{sited_taken, survivor_sited}
use Rattle.receiver.specs.Inner.{held_of, takes_over, counted_in, counted_held}
use Rattle.receiver.proofs.EitherKind.{Right, within_listed}

module _ (k : Kind) (right : Right k) (samples symbols : List Float) (e : symbols ≡ symbols_of samples) (p : Place) (h : listed k.last p ≡ true) (s : Settings) where
  abbrev w : Window
  w = seen k samples

  module _ {x : code.Option Candidate} (f : x ≡ held_of k (candidate_at k s (unmarked w) p)) where
    abbrev Found : Type 0
    Found = Alike w (candidate_at k s (unmarked w) p) (candidate_at k s w p)

    -- what is read is a location that is taken
    pub read_taken : (c : Candidate) → x ≡ code.Some c → location_number k.bytes c.location ≡ 0
    unfolding candidate
    read_taken c z = go (unmarked_alike w k s p)
      where
        go : Found → location_number k.bytes c.location ≡ 0
        go (inl (o, o')) = let q : code.None ≡ code.Some c = sym (f ∙ ap (held_of k) o) ∙ z in absurd cc
        go (inr (r, o, o')) =
            let q : c.location ≡ r = ap (λ (y : code.Option Candidate). (code.unwrap_or y c).location) (sym z ∙ f ∙ ap (held_of k) o) in
            rw q (sited_taken k p r (survivor_sited k right.makes s (unmarked w) p o) (within_listed k right p h))

    pub read_counted : counted_held k symbols x ≡ held_of k (candidate_at k s w p)
    unfolding candidate window_of row
    read_counted = go (unmarked_alike w k s p)
      where
        go : Found → counted_held k symbols x ≡ held_of k (candidate_at k s w p)
        go (inl (o, o')) = rw (f ∙ ap (held_of k) o, o')
        go (inr (r, o, o')) =
            let i : r.place ≡ p = (survivor_sited k right.makes s (unmarked w) p o).place in
            let l : listed k.last r.place ≡ true = rw i h in
            rw (f ∙ ap (held_of k) o, o', e, by_symbols samples r.place k.bytes k.last (omega (arith, right.last)) l r.slicer)

-- whether it takes over does not depend on its count
pub same_taken : (k : Kind) (symbols : List Float) (held : code.Option Candidate) (new : Candidate) → takes_over held (counted_in k symbols new) ≡ takes_over held new
unfolding beats
same_taken k symbols code.None new = refl
same_taken k symbols (code.Some held) new = refl
