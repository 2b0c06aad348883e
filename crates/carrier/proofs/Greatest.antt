-- The peak is the first greatest bin above 0.0. The laws can be read alone, and hold for all floats, NaN and infinities included.
--     first_greatest     where a bin that is searched is above 0.0, the answer is the first greatest
--     none_above         where none is, the answer is bin N/2 − M and value 0
--     never_nan          a NaN bin is never the first greatest
--     only_one           nothing else is the first greatest
-- Assumes nothing.
use mathlib.Core.Path.{◌≡◌, refl, sym, ap, ◌∙◌, subst}
use mathlib.Core.Logic.{◌⊎◌, inl, inr}
use mathlib.Core.List.{List}
use mathlib.Core.Bool.{Bool, true, false, cond}
use Prim.Native.Nat.{ℕ, zero, suc, ◌+◌, ◌-◌, ◌*◌, ◌/◌, ◌<◌, ◌≤◌}
use native.Mathlib.Nat.{add-zero, add-suc, eq-or-lt_of_le, le_of_suc-le-suc}
use native.Mathlib.Omega.{arith}
use denote.Floats.{passes}
use borrow.Author.Tests.{ltb-true, ltb-false}
use lib.Dec.{T, ltb}
use lib.ListN.{length}
use lib.Ieee.{Float, lt, le, is_nan}
use lib.Ieee.Bits.{is_true, is_false}
use Rattle.lists.specs.Told.{Told, done, tell}
use Rattle.lists.proofs.Telling.{told_number, told_values}
use Rattle.floats.specs.Numbers.{zero_f}
use Rattle.carrier.specs.declared.search.Best.{Best}
use Rattle.carrier.specs.Refusals.{search_number}
use Rattle.carrier.specs.Peaks.{bin_at, stronger, peak_from, peak_of, search_of}
use Rattle.carrier.proofs.Taken.{search_taken}
use Rattle.floats.proofs.Order.{lt_irreflexive, lt_transitive, lt_no_nan_r}
use Rattle.floats.proofs.Compare.{lt_le, lt_or_le}

-- ---- what is said

-- bin j is searched: N/2 − M to N/2 + M
pub record InSearch (s : List Float) (m j : ℕ) : Type 0 where
  pub from : length s / 2 - m ≤ j
  pub to : j ≤ length s / 2 + m

-- a bin that is searched and its own value, above 0.0: no earlier bin is as great, and no later one greater
pub record FirstGreatest (s : List Float) (m bin : ℕ) (value : Float) : Type 0 where
  pub inside : InSearch s m bin
  pub own : value ≡ bin_at s bin
  pub above : lt zero_f value ≡ true
  pub earlier : (j : ℕ) → InSearch s m j → j < bin → le value (bin_at s j) ≡ false
  pub later : (j : ℕ) → InSearch s m j → bin < j → lt value (bin_at s j) ≡ false

-- ---- the walk from bin `first` to before bin `end`

holds_not : (b : Bool) → (T b → ⊥) → b ≡ false
holds_not true h = absurd (h tt)
holds_not false h = refl

fails : (b : Bool) → T b → b ≡ false → ⊥
fails b t e = subst T e t

split : (j end : ℕ) → j < suc end → (j ≡ end) ⊎ (j < end)
split j end h = eq-or-lt_of_le (le_of_suc-le-suc h)

module _ (s : List Float) (first : ℕ) where
  -- none is greater than v
  abbrev Top : ℕ → Float → Type 0
  Top end v = (j : ℕ) → first ≤ j → j < end → T (lt v (bin_at s j)) → ⊥

  -- the holder is one of the bins, and above each before it
  record Leads (end : ℕ) (b : Best) : Type 0 where
    low : first ≤ b.bin
    high : b.bin < end
    own : b.value ≡ bin_at s b.bin
    above : T (lt zero_f b.value)
    earlier : (j : ℕ) → first ≤ j → j < b.bin → T (le b.value (bin_at s j)) → ⊥

  abbrev start : Best
  start = record { bin = first; value = zero_f }

  abbrev next : Bool → ℕ → Best → Best
  next t end b = cond t (record { bin = end; value = bin_at s end }) b

  top_more : (end : ℕ) (b : Best) (t : Bool) → lt b.value (bin_at s end) ≡ t → Top end b.value → Top (suc end) (next t end b).value
  top_more end b true e top j h l g = elim (split j end l) [
    | inl q ↦ lt_irreflexive (bin_at s end) (subst (λ (i : ℕ). T (lt (bin_at s end) (bin_at s i))) q g)
    | inr k ↦ top j h k (lt_transitive b.value (bin_at s end) (bin_at s j) (passes (lt b.value (bin_at s end)) e) g)
  ]
  top_more end b false e top j h l g = elim (split j end l) [
    | inl q ↦ fails (lt b.value (bin_at s end)) (subst (λ (i : ℕ). T (lt b.value (bin_at s i))) q g) e
    | inr k ↦ top j h k g
  ]

  over : (end : ℕ) (b : Best) (x : Float) → (b ≡ start) ⊎ Leads end b → T (lt b.value x) → T (lt zero_f x)
  over end b x st g = elim st [
    | inl e ↦ subst (λ (c : Best). T (lt c.value x)) e g
    | inr r ↦ lt_transitive zero_f b.value x r.above g
  ]

  leads_more : (end : ℕ) (b : Best) (t : Bool) → lt b.value (bin_at s end) ≡ t → first ≤ end → Top end b.value → (b ≡ start) ⊎ Leads end b
      → (next t end b ≡ start) ⊎ Leads (suc end) (next t end b)
  leads_more end b true e h top st =
      let g : T (lt b.value (bin_at s end)) = passes (lt b.value (bin_at s end)) e in
      inr (record {
        low = h;
        high = omega arith;
        own = refl;
        above = over end b (bin_at s end) st g;
        earlier = λ j a l k. top j a l (lt_le b.value (bin_at s end) (bin_at s j) g k);
      })
  leads_more end b false e h top st = elim st [
    | inl q ↦ inl q
    | inr r ↦ inr (record { low = r.low; high = omega (arith, r.high); own = r.own; above = r.above; earlier = r.earlier })
  ]

  top : (n : ℕ) → Top (first + n) (peak_from s first n).value
  unfolding peak_from stronger
  top zero = λ j h l g. absurd (none j h (rw (add-zero first) at l))
    where
      none : (j : ℕ) → first ≤ j → j < first → ⊥
      none j h l = omega arith
  top (suc n) =
      rw (add-suc first n)
      (top_more (first + n) (peak_from s first n) (lt (peak_from s first n).value (bin_at s (first + n))) refl (top n))

  leads : (n : ℕ) → (peak_from s first n ≡ start) ⊎ Leads (first + n) (peak_from s first n)
  unfolding peak_from stronger
  leads zero = inl refl
  leads (suc n) =
      rw (add-suc first n)
      (leads_more (first + n) (peak_from s first n) (lt (peak_from s first n).value (bin_at s (first + n))) refl (omega arith) (top n) (leads n))

-- ---- the answer

taken : (k : ℕ) (b : Best) {c : Best} → tell k b ≡ done c → (k ≡ 0) × (b ≡ c)
taken k b e = (sym (told_number b k) ∙ ap (λ (t : Told Best). t.0) e, told_values b k e)

-- what is known of a bin and a value that were found
record Opened (s : List Float) (m bin : ℕ) (value : Float) : Type 0 where
  greatest : (j : ℕ) → InSearch s m j → T (lt value (bin_at s j)) → ⊥
  stands : (record { bin = bin; value = value } ≡ start s (length s / 2 - m))
      ⊎ Leads s (length s / 2 - m) (length s / 2 + m + 1) (record { bin = bin; value = value })

opened : (s : List Float) (m bin : ℕ) (value : Float) → search_of s m ≡ done (record { bin = bin; value = value }) → Opened s m bin value
unfolding search_of peak_of
opened s m bin value e =
    let r = taken (search_number (length s) m) (peak_of s m) e in
    let t = search_taken (length s) m refl r.0 in
    let at = length s / 2 - m in
    let ends : at + (2 * m + 1) ≡ length s / 2 + m + 1 = omega (arith, t.wide) in
    let up = rw (ends, r.1) at (top s at (2 * m + 1)) in
    record {
      greatest = λ j i g. up j i.from (omega (arith, i.to)) g;
      stands = rw (ends, r.1) at (leads s at (2 * m + 1));
    }

module _ (s : List Float) (m bin : ℕ) (value : Float) (answer : search_of s m ≡ done (record { bin = bin; value = value })) where
  -- some bin that is searched is above 0.0
  pub first_greatest : (j : ℕ) → InSearch s m j → lt zero_f (bin_at s j) ≡ true → FirstGreatest s m bin value
  first_greatest j i g =
      let o = opened s m bin value answer in
      elim o.stands [
        | inl e ↦ absurd (o.greatest j i (subst (λ (v : Float). T (lt v (bin_at s j))) (sym (ap (λ (b : Best). b.value) e)) (passes (lt zero_f (bin_at s j)) g)))
        | inr r ↦ record {
          inside = record { from = r.low; to = omega (arith, r.high) };
          own = r.own;
          above = is_true (lt zero_f value) r.above;
          earlier = λ k a l. holds_not (le value (bin_at s k)) (r.earlier k a.from l);
          later = λ k a l. holds_not (lt value (bin_at s k)) (o.greatest k a);
        }
      ]

  -- no bin that is searched is above 0.0
  pub none_above : ((j : ℕ) → InSearch s m j → lt zero_f (bin_at s j) ≡ false) → (bin ≡ length s / 2 - m) × (value ≡ zero_f)
  none_above none = elim (opened s m bin value answer).stands [
    | inl e ↦ (ap (λ (b : Best). b.bin) e, ap (λ (b : Best). b.value) e)
    | inr r ↦ absurd (fails (lt zero_f (bin_at s bin)) (subst (λ (v : Float). T (lt zero_f v)) r.own r.above) (none bin (record { from = r.low; to = omega (arith, r.high) })))
  ]

pub never_nan : (s : List Float) (m bin : ℕ) (value : Float) → FirstGreatest s m bin value → is_nan (bin_at s bin) ≡ false
never_nan s m bin value f =
    is_false (is_nan (bin_at s bin)) (lt_no_nan_r zero_f (bin_at s bin) (passes (lt zero_f (bin_at s bin)) (rw f.own at f.above)))

-- ---- nothing else is

not_less : (a b : ℕ) → (a < b → ⊥) → b ≤ a
not_less a b h = go (ltb a b) refl
  where
    go : (t : Bool) → ltb a b ≡ t → b ≤ a
    go true e = absurd (h (ltb-true a b e))
    go false e = ltb-false a b e

module _ (s : List Float) (m : ℕ) where
  not_before : (i j : ℕ) (x y : Float) → FirstGreatest s m i x → FirstGreatest s m j y → i < j → ⊥
  not_before i j x y f g h =
      elim (lt_or_le x y (lt_no_nan_r zero_f x (passes (lt zero_f x) f.above)) (lt_no_nan_r zero_f y (passes (lt zero_f y) g.above))) [
        | inl l ↦ fails (lt x (bin_at s j)) (subst (λ (v : Float). T (lt x v)) g.own l) (f.later j g.inside h)
        | inr l ↦ fails (le y (bin_at s i)) (subst (λ (v : Float). T (le y v)) f.own l) (g.earlier i f.inside h)
      ]

  pub only_one : (i j : ℕ) (x y : Float) → FirstGreatest s m i x → FirstGreatest s m j y → (i ≡ j) × (x ≡ y)
  only_one i j x y f g =
      let e : i ≡ j = omega (arith, not_less i j (not_before i j x y f g), not_less j i (not_before j i y x g f)) in
      (e, f.own ∙ ap (bin_at s) e ∙ sym g.own)
