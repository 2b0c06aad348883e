-- What a search returns is chosen among all places, only one is, and it returns nothing exactly when no place holds anything.
-- Assumes, where it is named: `Apart`, that all patterns of at most two positions have different remainders (proved for 14 and 7 bytes).
use mathlib.Core.Path.{◌≡◌, refl, sym, ap, ◌∙◌, subst}
use mathlib.Core.Bool.{Bool, true, false, not}
use mathlib.Core.List.{List}
use mathlib.Core.Logic.{inl, inr, ◌↔◌, ◌≢◌}
use mathlib.Core.Option.{Option, none, some}
use Prim.Native.Nat.{ℕ, ◌+◌, ◌*◌, ◌≤◌, ◌<◌}
use native.Mathlib.Omega.{arith}
use native.Mathlib.Decide.{dec_lt}
use lib.Dec.{T}
use lib.Ieee.{Float, lt, le, is_nan}
use Rattle.lists.proofs.Members.{Numbered, member_of, number_of}
use Rattle.floats.proofs.Compare.{lt_or_le}
use Rattle.annex10.specs.Repair.{count, Apart}
use Rattle.annex10.specs.declared.Repairs.{Repairs}
use Rattle.place.specs.declared.Place.{Place}
use Rattle.place.specs.declared.Slicer.{Slicer}
use Rattle.place.specs.All.{place_at}
use Rattle.search.specs.declared.Settings.{Settings}
use Rattle.search.specs.declared.Candidate.{Candidate}
use Rattle.search.specs.Kinds.{Kind, places_of}
use Rattle.search.specs.Window.{◌∈◌, Window, Sized}
use Rattle.search.specs.Choice.{candidate, candidate_at, scan, best}
use Rattle.search.proofs.Passing.{reading_of}
use Rattle.search.proofs.Scanning.{not_some, scan_none}
use Rattle.search.proofs.Staging.{level_kept}
use Rattle.search.proofs.Choosing.{scan_chosen}
use Rattle.search.proofs.Choosing as scanned
use Rattle.claims.specs.Fits.{cn0_with, Holds}
use Rattle.claims.specs.Chosen.{Places, Sooner, Held, Chosen}
use Rattle.claims.specs.Calls.{NoneHeld}
use Rattle.claims.specs.Searched.{Filled, at_level, Searched}
use Rattle.claims.proofs.Fitting.{reads_first, keeps_first, one_first, holds_survives, survives_held, filled_is}

-- ---- the order of the scan

abbrev order_of : Place → ℕ
order_of p = 8 * p.bit + 2 * p.phase + p.symbol

order_at : (k : ℕ) → order_of (place_at k) ≡ k + 8
unfolding place_at
order_at k = omega arith

module _ (kind : Kind) (s : Settings) (w : Window) (apart : Apart kind.bytes) (sized : Sized kind w) {m many : ℕ} (places : Places kind m many) where
  -- a place that holds something has a number
  numbered : (p : Place) (z : Slicer) (ρ : Repairs) → Held kind s w p z ρ → Numbered place_at many p
  numbered p z ρ h = number_of place_at many p (subst (λ (ps : List Place). p ∈ ps) places.order h.0)

  searched_at : (k : ℕ) → k < many → place_at k ∈ places_of kind
  searched_at k h = subst (λ (ps : List Place). place_at k ∈ ps) (sym places.order) (member_of place_at many k h)

  -- what place number k holds
  abbrev at : ℕ → Option Candidate
  at k = candidate_at kind s w (place_at k)

  held_at : (k : ℕ) (x : Candidate) → k < many → at k ≡ some x → Held kind s w (place_at k) x.location.slicer x.location.repairs
  held_at k x l e = (searched_at k l, (survives_held kind s w apart sized (place_at k) x e).0)

  at_held : (q : Place) (y : Slicer) (σ : Repairs) → Holds kind s w q y σ → (n : Numbered place_at many q)
      → at n.number ≡ some (candidate w (reading_of q y σ))
  at_held q y σ h n = ap (candidate_at kind s w) n.is ∙ holds_survives kind s w apart sized q y σ h

  sooner_is : (q : Place) (n : Numbered place_at many q) (i : ℕ) → Sooner q (place_at i) → n.number < i
  sooner_is q n i h =
      let e = order_at i in
      let f : order_of q ≡ n.number + 8 = ap order_of (sym n.is) ∙ order_at n.number in
      omega arith

  sooner_when : (k : ℕ) (q : Place) (n : Numbered place_at many q) → k < n.number → Sooner (place_at k) q
  sooner_when k q n h =
      let e = order_at k in
      let f : order_of q ≡ n.number + 8 = ap order_of (sym n.is) ∙ order_at n.number in
      omega arith

  -- ---- what a scan holds is chosen

  chosen_at : (i : ℕ) (a : Candidate) → scanned.Chosen at many i a → Chosen kind s w (place_at i) a.location.slicer a.location.repairs
  unfolding candidate
  chosen_at i a c =
      let f = (survives_held kind s w apart sized (place_at i) a c.is).1 in
      record {
        held = held_at i a c.below c.is;
        fewest = λ q y σ h.
            let n = numbered q y σ h in
            let k : count a.location.repairs ≤ count σ = c.fewest n.number (candidate w (reading_of q y σ)) n.below (at_held q y σ h.1 n) in
            omega arith;
        greatest = λ q y σ h.
            let n = numbered q y σ h.0 in
            subst (λ (x : Float). lt x (cn0_with w q y σ) ≢ true) f.cn0
            (c.greatest n.number (candidate w (reading_of q y σ)) n.below (at_held q y σ h.0.1 n, h.1));
        earliest = λ q y σ h l.
            let n = numbered q y σ h.0 in
            subst (λ (x : Float). le x (cn0_with w q y σ) ≢ true) f.cn0
            (c.earliest n.number (candidate w (reading_of q y σ)) (sooner_is q n i l) (at_held q y σ h.0.1 n, h.1));
        newcomer = λ z q y σ h l.
            let n = numbered q y σ h.0 in
            c.newcomer (ap is_nan f.cn0 ∙ z) n.number (candidate w (reading_of q y σ)) (sooner_is q n i l) (at_held q y σ h.0.1 n, h.1);
        holder = λ q y σ h z first.
            let n = numbered q y σ h.0 in
            sym n.is
            ∙ ap place_at
            (c.holder n.number (candidate w (reading_of q y σ)) n.below (at_held q y σ h.0.1 n, h.1) z
            (λ k x l r. first (place_at k) x.location.slicer x.location.repairs (held_at k x (let b = n.below in omega arith) r.0, r.1) (sooner_when k q n l)));
      }

  found : (a : Candidate) → best kind s w ≡ some a
      → Chosen kind s w a.location.place a.location.slicer a.location.repairs × Filled w a.location.place a
  unfolding best
  found a e =
      let (i, c) = scan_chosen (candidate_at kind s w) place_at many a (sym (ap (scan (candidate_at kind s w) none) places.order) ∙ e) in
      let f = (survives_held kind s w apart sized (place_at i) a c.is).1 in (
        subst (λ (p : Place). Chosen kind s w p a.location.slicer a.location.repairs) (sym f.place) (chosen_at i a c),
        subst (λ (p : Place). Filled w p a) (sym f.place) f,
      )

  -- ---- only one is

  -- of two that are chosen neither comes before the other
  not_before : (p q : Place) (z y : Slicer) (ρ σ : Repairs) → Chosen kind s w p z ρ → Chosen kind s w q y σ → ¬ Sooner p q
  not_before p q z y ρ σ c d l = go (is_nan (cn0_with w q y σ)) (is_nan (cn0_with w p z ρ)) refl refl
    where
      same : count ρ ≡ count σ
      same = let a = c.fewest q y σ d.held in let b = d.fewest p z ρ c.held in omega arith

      number : (x : Float) → is_nan x ≡ false → T (not (is_nan x))
      number x e = subst T (sym (ap not e)) tt

      so : {b : Bool} → T b → b ≡ true
      so {b = true} t = refl
      so {b = false} t = absurd t

      go : (a b : Bool) → is_nan (cn0_with w q y σ) ≡ a → is_nan (cn0_with w p z ρ) ≡ b → ⊥
      go true b e f = d.newcomer e p z ρ (c.held, same) l
      go false true e f =
          let i = d.holder p z ρ (c.held, same) f (λ r x τ h. c.newcomer f r x τ (h.0, h.1 ∙ sym same)) in
          let o = ap order_of i in
          omega arith
      go false false e f = elim (lt_or_le (cn0_with w p z ρ) (cn0_with w q y σ) (number _ f) (number _ e)) [
        | inl h ↦ c.greatest q y σ (d.held, sym same) (so h)
        | inr h ↦ d.earliest p z ρ (c.held, same) l (so h)
      ]

  one_place : (p q : Place) → Numbered place_at many p → Numbered place_at many q → ¬ Sooner p q → ¬ Sooner q p → p ≡ q
  one_place p q i j a b =
      let e : order_of p ≡ i.number + 8 = ap order_of (sym i.is) ∙ order_at i.number in
      let f : order_of q ≡ j.number + 8 = ap order_of (sym j.is) ∙ order_at j.number in
      let k : i.number ≡ j.number = elim (dec_lt (order_of p) (order_of q)) [
        | yes l ↦ absurd (a l)
        | no l ↦ elim (dec_lt (order_of q) (order_of p)) [ yes m ↦ absurd (b m) | no m ↦ omega arith ]
      ] in
      sym i.is ∙ ap place_at k ∙ j.is

  one_chosen : (p q : Place) (z y : Slicer) (ρ σ : Repairs) → Chosen kind s w p z ρ → Chosen kind s w q y σ → (p ≡ q) × (z ≡ y) × (ρ ≡ σ)
  one_chosen p q z y ρ σ c d =
      let e = one_place p q (numbered p z ρ c.held) (numbered q y σ d.held) (not_before p q z y ρ σ c d) (not_before q p y z σ ρ d c) in
      let g : Holds kind s w p y σ = subst (λ (r : Place). Holds kind s w r y σ) (sym e) d.held.1 in
      let (u, v) = one_first kind s w apart sized p z y ρ σ c.held.1.first g.first in
      (e, u, v)

  -- ---- both ways

  nothing : (best kind s w ≡ none) ↔ NoneHeld kind s w
  unfolding best
  nothing =
      let (to, back) = scan_none (candidate_at kind s w) (places_of kind) in (
        λ e p z ρ h. not_some (sym (to e p h.0) ∙ holds_survives kind s w apart sized p z ρ h.1),
        λ h. back (λ p i. go h p i (candidate_at kind s w p) refl),
      )
    where
      go : NoneHeld kind s w → (p : Place) → p ∈ places_of kind → (o : Option Candidate) → candidate_at kind s w p ≡ o → o ≡ none
      go h p i none e = refl
      go h p i (some a) e = absurd (h p a.location.slicer a.location.repairs (i, (survives_held kind s w apart sized p a e).0))

  returned : (a : Candidate) → Chosen kind s w a.location.place a.location.slicer a.location.repairs
      → Filled w a.location.place a → best kind s w ≡ some a
  returned a c f = go (best kind s w) refl
    where
      go : (o : Option Candidate) → best kind s w ≡ o → o ≡ some a
      go none e = absurd (nothing.0 e a.location.place a.location.slicer a.location.repairs c.held)
      go (some b) e =
          let (d, g) = found b e in
          let l = a.location in
          let m = b.location in
          let (i, j, k) = one_chosen m.place l.place m.slicer l.slicer m.repairs l.repairs d c in
          let q : candidate w (reading_of m.place m.slicer m.repairs) ≡ candidate w (reading_of l.place l.slicer l.repairs) = rw (i, j, k) in
          ap some (sym (filled_is kind s w apart sized m.place b g) ∙ q ∙ filled_is kind s w apart sized l.place a f)

  -- ---- the level

  any_level : (a : Candidate) → best kind s w ≡ some a → (m : ℕ) → count a.location.repairs ≤ m → best kind (at_level m s) w ≡ some a
  any_level a e m h = level_kept kind s w m e h

  -- ALL THAT IS CLAIMED OF A SEARCH
  pub searched : Searched kind s w
  searched =
      record {
        reads_first = reads_first kind s w apart sized;
        keeps_first = keeps_first kind s w apart sized;
        nothing = nothing;
        returns = λ a. (found a, λ h. returned a h.0 h.1);
        one_chosen = one_chosen;
        any_level = any_level;
      }
