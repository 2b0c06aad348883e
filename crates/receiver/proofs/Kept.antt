-- A search over some of the places.
--     over_more     one place more
--     scan_kept     where the places that are left out hold nothing, it is the search over all
-- Assumes nothing.
use mathlib.Core.Path.{◌≡◌, refl, sym, ap, ◌∙◌}
use mathlib.Core.Bool.{Bool, true, false}
use mathlib.Core.List.{List, [], ◌∷◌, ◌++◌}
use mathlib.Core.Option.{Option, none, some}
use Prim.Native.Nat.{ℕ, zero, suc, ◌<◌}
use native.Mathlib.Numerals.{add-one}
use native.Mathlib.Omega.{arith}
use Rattle.lists.specs.From.{tabulate}
use Rattle.place.specs.declared.Place.{Place}
use Rattle.search.specs.declared.Candidate.{Candidate}
use Rattle.search.specs.Choice.{better, scan}
use Rattle.search.proofs.Scanning.{scan_more, scan_start}
use Rattle.scan.specs.Sieve.{kept}
use Rattle.receiver.specs.Inner.{over}

module _ (f : Place → Option Candidate) (at : ℕ → Place) where
  pub over_more : (ks : List ℕ) (k : ℕ) (h : Option Candidate) → over f at h (ks ++ (k ∷ [])) ≡ better (over f at h ks) (f (at k))
  unfolding over
  over_more [] k h = refl
  over_more (x ∷ ks) k h = over_more ks k (better h (f (at x)))

  keeps : (h : Option Candidate) {x : Option Candidate} → x ≡ none → better h x ≡ h
  keeps none e = e
  keeps (some h) e = rw e

  module _ (t : ℕ → Bool) where
    one : (b : Bool) (k : ℕ) → t k ≡ b → (b ≡ false → f (at k) ≡ none) → over f at none (kept t (suc k)) ≡ better (over f at none (kept t k)) (f (at k))
    unfolding kept
    one true k e z = rw e (over_more (kept t k) k none)
    one false k e z = rw e (sym (keeps (over f at none (kept t k)) (z refl)))

    pub scan_kept : (n : ℕ) → ((k : ℕ) → k < n → t k ≡ false → f (at k) ≡ none) → over f at none (kept t n) ≡ scan f none (tabulate n at)
    unfolding kept over
    scan_kept zero z = scan_start f at
    scan_kept (suc n) z =
        one (t n) n refl (λ e. z n (omega arith) e)
        ∙ ap (λ (h : Option Candidate). better h (f (at n))) (scan_kept n (λ k l. z k (omega arith)))
        ∙ sym (scan_more f at n) ∙ ap (λ (i : ℕ). scan f none (tabulate i at)) (add-one n)
