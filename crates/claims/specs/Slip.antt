-- The smallest input at which a trial that fails could leave its slicer standing for the next.
-- Assumes nothing.
use Rattle.std.specs.Prelude.{◌≡◌, List, [], ◌∷◌, ℕ}
use Rattle.annex10.specs.Remainder.{remainder}
use Rattle.annex10.specs.Repair.{repaired}
use Rattle.annex10.specs.declared.Repairs.TheVariants.{One, Two}
use Rattle.place.specs.declared.Place.{Place}
use Rattle.place.specs.declared.Slicer.TheVariants.{Coherent, Noncoherent}
use Rattle.search.specs.declared.Settings.{Settings}
use Rattle.search.specs.Kinds.{long}
use Rattle.search.specs.Window.{Window}
use Rattle.claims.specs.Fits.{FirstFit}

-- 88 07 76 AC, nine zero bytes, 03
unfoldable pub coherent : List ℕ
coherent = 0x88 ∷ 0x07 ∷ 0x76 ∷ 0xAC ∷ 0 ∷ 0 ∷ 0 ∷ 0 ∷ 0 ∷ 0 ∷ 0 ∷ 0 ∷ 0 ∷ 0x03 ∷ []

-- thirteen zero bytes, 01
unfoldable pub noncoherent : List ℕ
noncoherent = 0 ∷ 0 ∷ 0 ∷ 0 ∷ 0 ∷ 0 ∷ 0 ∷ 0 ∷ 0 ∷ 0 ∷ 0 ∷ 0 ∷ 0 ∷ 0x01 ∷ []

-- At a place where the two slicers read these bits, position 111 clears the noncoherent ones, but their header is not listed. What fits
-- first at level 2 is positions 110 and 111 of the coherent ones: the coherent slicer is named, and its bits are repaired.
pub record SlicerIsReset : Type 0 where
  pub clears : remainder (repaired noncoherent (One 111)) ≡ 0
  pub reset : (s : Settings) (w : Window) (p : Place) → s.level ≡ 2 → w.bits Coherent p ≡ coherent → w.bits Noncoherent p ≡ noncoherent
      → FirstFit long s w p Coherent (Two 110 111)
