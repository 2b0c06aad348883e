-- At the slip's input nothing comes before the two coherent positions: neither slicer's bits are cleared by fewer, but for the noncoherent
-- ones at position 111, where the header is not listed.
-- Assumes nothing.
use mathlib.Core.Path.{◌≡◌, refl, sym, ap, ◌∙◌}
use mathlib.Core.Bool.{true, false, true≢false}
use mathlib.Core.List.{List}
use mathlib.Core.Logic.{inl, inr}
use Prim.Native.Nat.{ℕ}
use native.Mathlib.Omega.{arith}
use lib.Dec.{lit<}
use lib.ListN.{length, get_or}
use Rattle.annex10.specs.Remainder.{remainder}
use Rattle.annex10.specs.Flip.{flip}
use Rattle.annex10.specs.Header.{one_of, long_header}
use Rattle.annex10.specs.Repair.{count, Proper, repaired, pattern}
use Rattle.annex10.specs.declared.Repairs.{Repairs}
use Rattle.annex10.specs.declared.Repairs.TheVariants.{One, Two}
use Rattle.annex10.proofs.Repairing.{clears_when}
use Rattle.annex10.proofs.Unique.{apart_14}
use Rattle.place.specs.declared.Place.{Place}
use Rattle.place.specs.declared.Slicer.{Slicer}
use Rattle.place.specs.declared.Slicer.TheVariants.{Coherent, Noncoherent}
use Rattle.search.specs.declared.Settings.{Settings}
use Rattle.search.specs.Kinds.{long}
use Rattle.search.specs.Window.{Window}
use Rattle.claims.specs.Fits.{Fits, Before, FirstFit}
use Rattle.claims.specs.Slip.{coherent, noncoherent, SlicerIsReset}

by_coherent : pattern 14 (Two 110 111) ≡ remainder coherent
unfolding pattern repaired remainder flip coherent
by_coherent = refl

by_noncoherent : pattern 14 (One 111) ≡ remainder noncoherent
unfolding pattern repaired remainder flip noncoherent
by_noncoherent = refl

bad : long_header (get_or (repaired noncoherent (One 111)) 0 0) ≡ false
unfolding long_header one_of repaired flip noncoherent
bad = refl

fine : long_header (get_or (repaired coherent (Two 110 111)) 0 0) ≡ true
unfolding long_header one_of repaired flip coherent
fine = refl

sizes : (length coherent ≡ 14) × (length noncoherent ≡ 14)
unfolding coherent noncoherent
sizes = (refl, refl)

-- what clears these bits is ρ and nothing else
only : (bits : List ℕ) (ρ σ : Repairs) → length bits ≡ 14 → Proper 14 ρ → pattern 14 ρ ≡ remainder bits → Proper 14 σ → remainder (repaired bits σ) ≡ 0
    → σ ≡ ρ
only bits ρ σ size p e q z = apart_14.same σ ρ q p ((clears_when 14 bits σ size).0 z ∙ sym e)

module _ (s : Settings) (w : Window) (p : Place) (level : s.level ≡ 2) (c : w.bits Coherent p ≡ coherent) (n : w.bits Noncoherent p ≡ noncoherent) where
  two_fit : Fits long s w p Coherent (Two 110 111)
  unfolding long
  two_fit =
      record {
        positions = (lit< tt, lit< tt);
        few = omega arith;
        clear = rw c ((clears_when 14 coherent (Two 110 111) sizes.0).1 by_coherent);
        header = rw c fine;
        apart = λ e o. let z : ◌≡◌ {A = ℕ} 0 1 = cc in absurd (omega arith);
      }

  -- whatever fits is of the coherent bits and has two positions
  fits_two : (y : Slicer) (σ : Repairs) → Fits long s w p y σ → (y ≡ Coherent) × (count σ ≡ 2)
  unfolding long
  fits_two Coherent σ f =
      let e = only coherent (Two 110 111) σ sizes.0 (lit< tt, lit< tt) by_coherent f.positions (rw c at f.clear) in
      (refl, ap count e)
  fits_two Noncoherent σ f =
      let e : σ ≡ One 111 = only noncoherent (One 111) σ sizes.1 (lit< tt) by_noncoherent f.positions (rw n at f.clear) in
      let h : long_header (get_or (repaired noncoherent σ) 0 0) ≡ true = rw n at f.header in
      absurd (true≢false (sym h ∙ ap (λ (ρ : Repairs). long_header (get_or (repaired noncoherent ρ) 0 0)) e ∙ bad))

  two_first : FirstFit long s w p Coherent (Two 110 111)
  two_first = record { fits = two_fit; first = none_before }
    where
      none_before : (y : Slicer) (σ : Repairs) → Fits long s w p y σ → ¬ Before y σ Coherent (Two 110 111)
      none_before y σ f (inl l) = let e = (fits_two y σ f).1 in omega arith
      none_before y σ f (inr h) = let e = h.2 in let z : ◌≡◌ {A = ℕ} 0 1 = cc in omega arith

pub slicer_is_reset : SlicerIsReset
slicer_is_reset = record { clears = (clears_when 14 noncoherent (One 111) sizes.1).1 by_noncoherent; reset = λ s w p l. two_first s w p (omega arith) }
