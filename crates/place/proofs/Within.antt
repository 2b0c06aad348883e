-- The test of a place as facts about its numbers.
-- Assumes nothing.
use mathlib.Core.Path.{◌≡◌, sym, subst}
use mathlib.Core.Bool.{true, ◌&&◌}
use Prim.Native.Nat.{ℕ, ◌≤◌}
use lib.Dec.{T, leb, leb→le}
use lib.Ieee.Fits.{and_l, and_r}
use borrow.Author.Tests.{le-leb}
use Rattle.place.specs.declared.Place.{Place}
use Rattle.place.specs.Step.{symbol_start, last_symbol, starts_by, within}
use Rattle.place.specs.All.{listed}

pub record Starts (last : ℕ) (p : Place) : Type 0 where
  pub phase : p.phase ≤ 3
  pub symbol : p.symbol ≤ 1
  pub start : symbol_start p ≤ last

module _ (last : ℕ) (p : Place) where
  pub starts_gives : starts_by last p ≡ true → Starts last p
  starts_gives e =
      let A = leb p.phase 3 in
      let B = leb p.symbol 1 in
      let C = leb (symbol_start p) last in
      let t : T (A && B && C) = subst T (sym e) tt in
      record {
        phase = leb→le _ _ (and_l A B (and_l (A && B) C t));
        symbol = leb→le _ _ (and_r A B (and_l (A && B) C t));
        start = leb→le _ _ (and_r (A && B) C t);
      }

  pub starts_is : Starts last p → starts_by last p ≡ true
  starts_is w = rw (le-leb _ _ w.phase, le-leb _ _ w.symbol, le-leb _ _ w.start)

-- of a message of n bytes
abbrev pub Within : ℕ → Place → Type 0
Within n p = Starts (last_symbol n) p

module _ (n : ℕ) (p : Place) where
  pub within_gives : within n p ≡ true → Within n p
  unfolding within
  within_gives = starts_gives (last_symbol n) p

  pub within_is : Within n p → within n p ≡ true
  unfolding within
  within_is = starts_is (last_symbol n) p

pub record Listed (m : ℕ) (p : Place) : Type 0 where
  pub from : 1 ≤ p.bit
  pub to : p.bit ≤ m
  pub phase : p.phase ≤ 3
  pub symbol : p.symbol ≤ 1

module _ (m : ℕ) (p : Place) where
  pub listed_gives : listed m p ≡ true → Listed m p
  unfolding listed
  listed_gives e =
      let A = leb 1 p.bit in
      let B = leb p.bit m in
      let C = leb p.phase 3 in
      let D = leb p.symbol 1 in
      let t : T (A && B && C && D) = subst T (sym e) tt in
      record {
        from = leb→le _ _ (and_l A B (and_l (A && B) C (and_l (A && B && C) D t)));
        to = leb→le _ _ (and_r A B (and_l (A && B) C (and_l (A && B && C) D t)));
        phase = leb→le _ _ (and_r (A && B) C (and_l (A && B && C) D t));
        symbol = leb→le _ _ (and_r (A && B && C) D t);
      }

  pub listed_is : Listed m p → listed m p ≡ true
  unfolding listed
  listed_is w = rw (le-leb _ _ w.from, le-leb _ _ w.to, le-leb _ _ w.phase, le-leb _ _ w.symbol)
