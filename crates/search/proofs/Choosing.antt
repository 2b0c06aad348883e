-- Which of several candidates a scan holds: the one with the fewest repairs; of those with as many the greatest cn0, and of the equally
-- great the first. A NaN is held only if it was met first among them, and then it stays.
--     scan_chosen    what a scan of n places holds is chosen among them
-- Assumes nothing.
use mathlib.Core.Path.{◌≡◌, refl, sym, ap, ◌∙◌, subst}
use mathlib.Core.Bool.{Bool, true, false, ◌&&◌, ◌||◌, cond, true≢false, false≢true}
use mathlib.Core.Logic.{◌⊎◌, inl, inr, ◌≢◌}
use mathlib.Core.Option.{Option, none, some}
use Prim.Native.Nat.{ℕ, zero, suc, ◌+◌, ◌≤◌, ◌<◌}
use native.Mathlib.Omega.{arith}
use native.Mathlib.Numerals.{add-one}
use native.Mathlib.Decide.{dec_lt}
use borrow.Author.Tests.{ltb-true, ltb-false, eqb-true, eq-eqb}
use lib.Dec.{T, eqb, ltb}
use lib.Ieee.{Float, lt, le, is_nan}
use Rattle.lists.specs.From.{tabulate}
use Rattle.annex10.specs.Repair.{count}
use Rattle.place.specs.declared.Place.{Place}
use Rattle.floats.proofs.Order.{lt_irreflexive, lt_transitive}
use Rattle.floats.proofs.Compare.{lt_le}
use Rattle.floats.proofs.Nan.{nan_is, nan_lt, lt_nan}
use Rattle.search.specs.declared.Candidate.{Candidate}
use Rattle.search.specs.Choice.{beats, better, scan}
use Rattle.search.proofs.Scanning.{not_some, scan_more, scan_start}

-- ---- tests as facts

-- a test of the floats, as the laws have it
so : {b : Bool} → b ≡ true → T b
so e = subst T (sym e) tt

is_so : (b : Bool) → T b → b ≡ true
is_so true t = refl
is_so false t = absurd t

nan_below : (x y : Float) → is_nan x ≡ true → lt x y ≡ true → ⊥
nan_below x y e h = false≢true (sym (ap (λ (z : Float). lt z y) (nan_is x e) ∙ nan_lt y) ∙ h)

below_nan : (x y : Float) → is_nan y ≡ true → lt x y ≡ true → ⊥
below_nan x y e h = false≢true (sym (ap (lt x) (nan_is y e) ∙ lt_nan x) ∙ h)

-- ---- who beats whom

abbrev Beats : Candidate → Candidate → Type 0
Beats x h = (count x.location.repairs < count h.location.repairs) ⊎ ((count x.location.repairs ≡ count h.location.repairs) × (lt h.cn0 x.cn0 ≡ true))

record Loses (x h : Candidate) : Type 0 where
  more : count h.location.repairs ≤ count x.location.repairs
  not_above : count x.location.repairs ≡ count h.location.repairs → lt h.cn0 x.cn0 ≢ true

beats_gives : (x h : Candidate) → beats x h ≡ true → Beats x h
unfolding beats
beats_gives x h e = go (ltb (count x.location.repairs) (count h.location.repairs)) (eqb (count x.location.repairs) (count h.location.repairs)) refl refl e
  where
    go : (p q : Bool) → ltb (count x.location.repairs) (count h.location.repairs) ≡ p → eqb (count x.location.repairs) (count h.location.repairs) ≡ q
        → (p || (q && lt h.cn0 x.cn0)) ≡ true → Beats x h
    go true q a b e = inl (ltb-true _ _ a)
    go false true a b e = inr (eqb-true _ _ b, e)
    go false false a b e = absurd (false≢true e)

loses_gives : (x h : Candidate) → beats x h ≡ false → Loses x h
unfolding beats
loses_gives x h e = go (ltb (count x.location.repairs) (count h.location.repairs)) refl e
  where
    go : (p : Bool) → ltb (count x.location.repairs) (count h.location.repairs) ≡ p
        → (p || (eqb (count x.location.repairs) (count h.location.repairs) && lt h.cn0 x.cn0)) ≡ false → Loses x h
    go true a e = absurd (true≢false e)
    go false a e = record {
      more = ltb-false _ _ a;
      not_above = λ q l. true≢false (sym l ∙ sym (ap (λ (b : Bool). b && lt h.cn0 x.cn0) (eq-eqb _ _ q)) ∙ e);
    }

-- ---- chosen

-- f k is what place number k holds; number i holds a, and it is chosen among the first n
module _ (f : ℕ → Option Candidate) where
  -- place number j holds x, with as many repairs as a
  abbrev pub Rival : Candidate → ℕ → Candidate → Type 0
  Rival a j x = (f j ≡ some x) × (count x.location.repairs ≡ count a.location.repairs)

  pub record Chosen (n i : ℕ) (a : Candidate) : Type 0 where
    pub below : i < n
    pub is : f i ≡ some a
    pub fewest : (j : ℕ) (x : Candidate) → j < n → f j ≡ some x → count a.location.repairs ≤ count x.location.repairs
    pub greatest : (j : ℕ) (x : Candidate) → j < n → Rival a j x → lt a.cn0 x.cn0 ≢ true
    pub earliest : (j : ℕ) (x : Candidate) → j < i → Rival a j x → le a.cn0 x.cn0 ≢ true
    pub newcomer : is_nan a.cn0 ≡ true → (j : ℕ) (x : Candidate) → j < i → ¬ Rival a j x
    pub holder : (j : ℕ) (x : Candidate) → j < n → Rival a j x → is_nan x.cn0 ≡ true
        → ((k : ℕ) (y : Candidate) → k < j → ¬ Rival a k y) → j ≡ i

  -- what is held after n places
  record After (n : ℕ) (o : Option Candidate) : Type 0 where
    nothing : o ≡ none → (j : ℕ) → j < n → f j ≡ none
    something : (a : Candidate) → o ≡ some a → (i : ℕ) × Chosen n i a

  last : {n j : ℕ} → j < n + 1 → (j < n) ⊎ (j ≡ n)
  last {n} {j} h = elim (dec_lt j n) [ yes l ↦ inl l | no l ↦ inr (omega arith) ]

  same_candidate : {j n : ℕ} {x y : Candidate} → j ≡ n → f j ≡ some x → f n ≡ some y → x ≡ y
  same_candidate {j} {n} {x} {y} e p q = let g : f n ≡ some x = subst (λ (i : ℕ). f i ≡ some x) e p in cc

  -- the newcomer is nothing
  kept_none : (n : ℕ) (o : Option Candidate) → f n ≡ none → After n o → After (n + 1) o
  kept_none n o e h =
      record {
        nothing = λ q j l. elim (last l) [ inl m ↦ h.nothing q j m | inr m ↦ ap f m ∙ e ];
        something = λ a q. let (i, c) = h.something a q in (i, kept i a c);
      }
    where
      here : {j : ℕ} {x : Candidate} → j < n + 1 → f j ≡ some x → j < n
      here {j} {x} l p = elim (last l) [ inl m ↦ m | inr m ↦ not_some (sym (ap f m ∙ e) ∙ p) ]

      kept : (i : ℕ) (a : Candidate) → Chosen n i a → Chosen (n + 1) i a
      kept i a c =
          record {
            below = let b = c.below in omega arith;
            is = c.is;
            fewest = λ j x l p. c.fewest j x (here l p) p;
            greatest = λ j x l r. c.greatest j x (here l r.0) r;
            earliest = c.earliest;
            newcomer = c.newcomer;
            holder = λ j x l r. c.holder j x (here l r.0) r;
          }

  -- it is the first that is met
  first_met : (n : ℕ) (x : Candidate) → f n ≡ some x → ((j : ℕ) → j < n → f j ≡ none) → After (n + 1) (some x)
  first_met n x e h =
      record {
        nothing = λ q. not_some (sym q);
        something = λ a q. (n, subst (Chosen (n + 1) n) (let s : x ≡ a = cc in s) chosen);
      }
    where
      here : {j : ℕ} {y : Candidate} → j < n + 1 → f j ≡ some y → j ≡ n
      here {j} {y} l p = elim (last l) [ inl m ↦ not_some (sym (h j m) ∙ p) | inr m ↦ m ]

      self : {j : ℕ} {y : Candidate} → j < n + 1 → f j ≡ some y → y ≡ x
      self l p = same_candidate (here l p) p e

      chosen : Chosen (n + 1) n x
      chosen =
          record {
            below = omega arith;
            is = e;
            fewest = λ j y l p. let s = self l p in subst (λ (z : Candidate). count x.location.repairs ≤ count z.location.repairs) (sym s) (omega arith);
            greatest = λ j y l r q.
                let s = self l r.0 in
                lt_irreflexive x.cn0 (so (subst (λ (z : Candidate). lt x.cn0 z.cn0 ≡ true) s q));
            earliest = λ j y l r. not_some (sym (h j l) ∙ r.0);
            newcomer = λ z j y l r. not_some (sym (h j l) ∙ r.0);
            holder = λ j y l r z w. here l r.0;
          }

  module _ (n i : ℕ) (a x : Candidate) (c : Chosen n i a) (e : f n ≡ some x) where
    here : {j : ℕ} {y : Candidate} → j < n + 1 → f j ≡ some y → (j < n) ⊎ ((j ≡ n) × (y ≡ x))
    here {j} {y} l p = elim (last l) [ inl m ↦ inl m | inr m ↦ inr (m, same_candidate m p e) ]

    self : {y : Candidate} → y ≡ x → lt x.cn0 y.cn0 ≢ true
    self s q = lt_irreflexive x.cn0 (so (subst (λ (z : Candidate). lt x.cn0 z.cn0 ≡ true) s q))

    -- with fewer repairs the newcomer has no rival
    fewer_chosen : count x.location.repairs < count a.location.repairs → Chosen (n + 1) n x
    fewer_chosen less =
        record {
          below = omega arith;
          is = e;
          fewest = λ j y l p. elim (here l p) [
            | inl m ↦ let k = c.fewest j y m p in omega arith
            | inr m ↦ subst (λ (z : Candidate). count x.location.repairs ≤ count z.location.repairs) (sym m.1) (omega arith)
          ];
          greatest = λ j y l r. elim (here l r.0) [ inl m ↦ absurd (alone m r) | inr m ↦ self m.1 ];
          earliest = λ j y l r. absurd (alone l r);
          newcomer = λ z j y l r. alone l r;
          holder = λ j y l r z w. elim (here l r.0) [ inl m ↦ absurd (alone m r) | inr m ↦ m.0 ];
        }
      where
        alone : {j : ℕ} {y : Candidate} → j < n → ¬ Rival x j y
        alone {j} {y} m r = let k = c.fewest j y m r.0 in let q = r.1 in omega arith

    -- as many, and a strictly greater cn0
    greater_chosen : count x.location.repairs ≡ count a.location.repairs → lt a.cn0 x.cn0 ≡ true → Chosen (n + 1) n x
    greater_chosen same above =
        record {
          below = omega arith;
          is = e;
          fewest = λ j y l p. elim (here l p) [
            | inl m ↦ let k = c.fewest j y m p in omega arith
            | inr m ↦ subst (λ (z : Candidate). count x.location.repairs ≤ count z.location.repairs) (sym m.1) (omega arith)
          ];
          greatest = λ j y l r. elim (here l r.0) [
            | inl m ↦ λ q. c.greatest j y m (with_a r) (is_so _ (lt_transitive a.cn0 x.cn0 y.cn0 (so above) (so q)))
            | inr m ↦ self m.1
          ];
          earliest = λ j y l r q. c.greatest j y l (with_a r) (is_so _ (lt_le a.cn0 x.cn0 y.cn0 (so above) (so q)));
          newcomer = λ z j y l r. below_nan a.cn0 x.cn0 z above;
          holder = λ j y l r z w. elim (here l r.0) [
            | inl m ↦
                let q = c.holder j y m (with_a r) z (λ k v u s. w k v u (s.0, s.1 ∙ sym same)) in
                let v : y ≡ a = same_candidate q r.0 c.is in
                absurd (nan_below a.cn0 x.cn0 (subst (λ (b : Candidate). is_nan b.cn0 ≡ true) v z) above)
            | inr m ↦ m.0
          ];
        }
      where
        with_a : {j : ℕ} {y : Candidate} → Rival x j y → Rival a j y
        with_a r = (r.0, r.1 ∙ same)

    -- neither
    still_chosen : Loses x a → Chosen (n + 1) i a
    still_chosen o =
        record {
          below = let b = c.below in omega arith;
          is = c.is;
          fewest = λ j y l p. elim (here l p) [
            | inl m ↦ c.fewest j y m p
            | inr m ↦ subst (λ (z : Candidate). count a.location.repairs ≤ count z.location.repairs) (sym m.1) o.more
          ];
          greatest = λ j y l r. elim (here l r.0) [
            | inl m ↦ c.greatest j y m r
            | inr m ↦ λ q.
                let s = m.1 in
                o.not_above (sym (ap (λ (z : Candidate). count z.location.repairs) s) ∙ r.1) (subst (λ (z : Candidate). lt a.cn0 z.cn0 ≡ true) s q)
          ];
          earliest = c.earliest;
          newcomer = c.newcomer;
          holder = λ j y l r z w. elim (here l r.0) [
            | inl m ↦ c.holder j y m r z w
            | inr m ↦ let b = c.below in let q = m.0 in absurd (w i a (omega arith) (c.is, refl))
          ];
        }

  turn : (n : ℕ) (h : Option Candidate) → After n h → After (n + 1) (better h (f n))
  turn n h p = go h (f n) refl p
    where
      go : (h o : Option Candidate) → f n ≡ o → After n h → After (n + 1) (better h o)
      go none none e p = kept_none n none e p
      go none (some x) e p = first_met n x e (p.nothing refl)
      go (some a) none e p = kept_none n (some a) e p
      go (some a) (some x) e p = let (i, c) = p.something a refl in take i c (beats x a) refl
        where
          take : (i : ℕ) → Chosen n i a → (b : Bool) → beats x a ≡ b → After (n + 1) (cond b (some x) (some a))
          take i c true q = record {
            nothing = λ z. not_some (sym z);
            something = λ y z. (
              n,
              subst (Chosen (n + 1) n) (let s : x ≡ y = cc in s)
                  (elim (beats_gives x a q) [ inl l ↦ fewer_chosen n i a x c e l | inr l ↦ greater_chosen n i a x c e l.0 l.1 ]),
            );
          }
          take i c false q = record {
            nothing = λ z. not_some (sym z);
            something = λ y z. (i, subst (Chosen (n + 1) i) (let s : a ≡ y = cc in s) (still_chosen n i a x c e (loses_gives x a q)));
          }

module _ (f : Place → Option Candidate) (at : ℕ → Place) where
  after : (n : ℕ) → After (λ k. f (at k)) n (scan f none (tabulate n at))
  after zero = record { nothing = λ q j l. absurd (omega arith); something = λ a q. not_some (scan_start f at ∙ q) }
  after (suc n) =
      subst (λ (k : ℕ). After (λ k. f (at k)) k (scan f none (tabulate k at))) (add-one n)
      (subst (After (λ k. f (at k)) (n + 1)) (sym (scan_more f at n)) (turn (λ k. f (at k)) n (scan f none (tabulate n at)) (after n)))

  pub scan_chosen : (n : ℕ) (a : Candidate) → scan f none (tabulate n at) ≡ some a → (i : ℕ) × Chosen (λ k. f (at k)) n i a
  scan_chosen n a e = (after n).something a e
