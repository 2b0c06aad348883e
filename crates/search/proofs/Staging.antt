-- The search in stages: what needs no repair first.
--     level_kept     what is found at one level is found at every level that permits its repairs
--     exact_first    what is found at a lower level is what the search finds
--     unasked, swap  a trial that is not asked for fails; two conditions of one, in either order
--     exact_none     where nothing is held without repairs, no trial without repairs passes
--     later_fails    then none passes where no positions clear either slicer's bits
--     later_none     and the place holds nothing
-- Assumes nothing.
use mathlib.Core.Path.{◌≡◌, refl, sym, ap, ◌∙◌, fun_ext}
use mathlib.Core.Bool.{Bool, true, false, cond}
use mathlib.Core.List.{List, [], ◌∷◌}
use mathlib.Core.Option.{Option, none, some}
use Prim.Native.Nat.{ℕ, ◌≤◌, min}
use native.Mathlib.Nat.{zero-min}
use native.Mathlib.Omega.{arith}
use borrow.Author.Tests.{ne_eqb, leb-true}
use lib.Dec.{leb}
use Rattle.annex10.specs.Repair.{count}
use Rattle.annex10.specs.declared.Found.TheVariants.{Nothing}
use Rattle.place.specs.declared.Place.{Place}
use Rattle.place.specs.declared.Slicer.{Slicer}
use Rattle.place.specs.declared.Slicer.TheVariants.{Coherent, Noncoherent}
use Rattle.place.specs.declared.location.Location.{Location}
use Rattle.search.specs.declared.Settings.{Settings}
use Rattle.search.specs.declared.Candidate.{Candidate}
use Rattle.search.specs.declared.Tried.{Tried}
use Rattle.search.specs.declared.Tried.TheVariants.{Pass, Fail}
use Rattle.search.specs.Kinds.{Kind, places_of}
use Rattle.search.specs.Window.{Window}
use Rattle.search.specs.Trials.{checked, cleared, given, six_trials, trials, differ, first, reading}
use Rattle.search.specs.Choice.{candidate, dropped, survivor, candidate_at, scan, best}
use Rattle.search.proofs.Passing.{up_to, limited}
use Rattle.search.proofs.Scanning.{whole, level_is, at_most, at_most_is, at_most_kept, not_some}

-- the same settings at another level
abbrev pub at_level : ℕ → Settings → Settings
at_level m s = record { level = m; threshold = s.threshold; second = s.second; distance = s.distance }

-- ---- what is found at another level

module _ (kind : Kind) (s : Settings) (w : Window) where
  same_survivor : (m : ℕ) (t : Tried) → survivor (at_level m s) w t ≡ survivor s w t
  unfolding survivor dropped
  same_survivor m Fail = refl
  same_survivor m (Pass r) = refl

  same_whole : (m : ℕ) → whole kind (at_level m s) w ≡ whole kind s w
  unfolding whole
  same_whole m =
      ap (λ (f : Place → Option Candidate). scan f none (places_of kind))
      (fun_ext (λ p. same_survivor m (reading kind 2 p (w.bits Coherent p) (w.bits Noncoherent p))))

  pub level_kept : (m : ℕ) {a : Candidate} → best kind s w ≡ some a → count a.location.repairs ≤ m → best kind (at_level m s) w ≡ some a
  level_kept m {a} e h =
      let (q, n) = at_most_is (min s.level kind.most) (whole kind s w) (sym (level_is kind s w) ∙ e) in
      level_is kind (at_level m s) w ∙ ap (at_most (min m kind.most)) (same_whole m ∙ q) ∙ at_most_kept (min m kind.most) a (omega arith)

module _ (kind : Kind) (s : Settings) (w : Window) where
  pub exact_first : (m : ℕ) {a : Candidate} → m ≤ s.level → best kind (at_level m s) w ≡ some a → best kind s w ≡ some a
  exact_first m {a} h e =
      let (q, n) = at_most_is (min m kind.most) (whole kind (at_level m s) w) (sym (level_is kind (at_level m s) w) ∙ e) in
      level_kept kind (at_level m s) w s.level e (omega arith)

-- ---- where no trial without repairs passes

given_fail : (a : Bool) → given a Fail ≡ Fail
unfolding given
given_fail true = refl
given_fail false = refl

pub unasked : (t : Tried) → given false t ≡ Fail
unfolding given
unasked t = refl

pub swap : (a b : Bool) (t : Tried) → given a (given b t) ≡ given b (given a t)
unfolding given
swap true true t = refl
swap true false t = refl
swap false true t = refl
swap false false t = refl

rest_fails : (t u : Tried) {x y z v : Tried} → first (t ∷ u ∷ []) ≡ Fail → x ≡ Fail → y ≡ Fail → z ≡ Fail → v ≡ Fail
    → first (t ∷ u ∷ x ∷ y ∷ z ∷ v ∷ []) ≡ Fail
rest_fails (Pass r) u h x y z v = h
rest_fails Fail (Pass r) h x y z v = h
rest_fails Fail Fail h x y z v = rw (x, y, z, v)

two_first : (t u : Tried) (ts : List Tried) → first (t ∷ u ∷ ts) ≡ Fail → first (t ∷ u ∷ []) ≡ Fail
two_first (Pass r) u ts h = h
two_first Fail (Pass r) ts h = h
two_first Fail Fail ts h = refl

module _ (kind : Kind) (p : Place) (coherent noncoherent : List ℕ) where
  abbrev one : Tried
  one = checked kind p 1 Coherent coherent (cleared kind coherent 0)

  abbrev two : Tried
  two = checked kind p 2 Noncoherent noncoherent (cleared kind noncoherent 0)

  abbrev others : ℕ → List Tried
  others level =
      given (leb 1 level) (checked kind p 3 Coherent coherent (cleared kind coherent 1))
      ∷ given (leb 1 level) (given (differ coherent noncoherent) (checked kind p 4 Noncoherent noncoherent (cleared kind noncoherent 1)))
      ∷ given (leb 2 level) (checked kind p 5 Coherent coherent (cleared kind coherent 2))
      ∷ given (leb 2 level) (given (differ coherent noncoherent) (checked kind p 6 Noncoherent noncoherent (cleared kind noncoherent 2)))
      ∷ []

  as_listed : (level : ℕ) → reading kind level p coherent noncoherent ≡ first (one ∷ two ∷ others level)
  unfolding reading trials six_trials
  as_listed level = refl

  missed : (number : ℕ) (slicer : Slicer) (bits : List ℕ) → given true (checked kind p number slicer bits Nothing) ≡ Fail
  unfolding given checked
  missed number slicer bits = refl

  -- a trial that is made only from level n on, for n positions
  unmade : (n level number : ℕ) (slicer : Slicer) (bits : List ℕ) → (n ≤ level → cleared kind bits n ≡ Nothing)
      → given (leb n level) (checked kind p number slicer bits (cleared kind bits n)) ≡ Fail
  unmade n level number slicer bits h = go (leb n level) refl
    where
      go : (b : Bool) → leb n level ≡ b → given b (checked kind p number slicer bits (cleared kind bits n)) ≡ Fail
      go true q = rw (h (leb-true n level q)) (missed number slicer bits)
      go false q = unasked (checked kind p number slicer bits (cleared kind bits n))

  swapped : (n level : ℕ) (b : Bool) (number : ℕ) → (n ≤ level → cleared kind noncoherent n ≡ Nothing)
      → given (leb n level) (given b (checked kind p number Noncoherent noncoherent (cleared kind noncoherent n))) ≡ Fail
  swapped n level b number h = swap (leb n level) b _ ∙ ap (given b) (unmade n level number Noncoherent noncoherent h) ∙ given_fail b

  pub later_fails : (level : ℕ) → reading kind 0 p coherent noncoherent ≡ Fail
      → ((n : ℕ) → 1 ≤ n → n ≤ level → (cleared kind coherent n ≡ Nothing) × (cleared kind noncoherent n ≡ Nothing))
      → reading kind level p coherent noncoherent ≡ Fail
  later_fails level h c =
      as_listed level
      ∙ rest_fails one two (two_first one two (others 0) (sym (as_listed 0) ∙ h))
      (unmade 1 level 3 Coherent coherent (λ l. (c 1 (omega arith) l).0))
      (swapped 1 level (differ coherent noncoherent) 4 (λ l. (c 1 (omega arith) l).1))
      (unmade 2 level 5 Coherent coherent (λ l. (c 2 (omega arith) l).0))
      (swapped 2 level (differ coherent noncoherent) 6 (λ l. (c 2 (omega arith) l).1))

-- a reading with no repairs is not dropped
module _ (s : Settings) (w : Window) where
  stays : (r : Location) → count r.repairs ≤ 0 → survivor s w (Pass r) ≡ some (candidate w r)
  unfolding survivor dropped candidate
  stays r l = rw (ne_eqb (count r.repairs) 2 (λ q. omega arith))

  none_passed : (b : Bool) (r : Location) → leb (count r.repairs) 0 ≡ b → survivor s w (cond b (Pass r) Fail) ≡ none → cond b (Pass r) Fail ≡ Fail
  none_passed true r q e = not_some (sym e ∙ stays r (leb-true _ _ q))
  none_passed false r q e = refl

  none_up : (t : Tried) → survivor s w (up_to 0 t) ≡ none → up_to 0 t ≡ Fail
  none_up (Pass r) e = none_passed (leb (count r.repairs) 0) r refl e
  none_up Fail e = refl

module _ (kind : Kind) (s : Settings) (w : Window) (p : Place) where
  pub exact_none : candidate_at kind (at_level 0 s) w p ≡ none → reading kind 0 p (w.bits Coherent p) (w.bits Noncoherent p) ≡ Fail
  unfolding candidate_at
  exact_none e =
      let q = limited kind p (w.bits Coherent p) (w.bits Noncoherent p) 0 in
      q ∙ none_up (at_level 0 s) w (reading kind 2 p (w.bits Coherent p) (w.bits Noncoherent p)) (ap (survivor (at_level 0 s) w) (sym q) ∙ rw (zero-min kind.most) at e)

  pub later_none : candidate_at kind (at_level 0 s) w p ≡ none
      → ((n : ℕ) → 1 ≤ n → n ≤ min s.level kind.most → (cleared kind (w.bits Coherent p) n ≡ Nothing) × (cleared kind (w.bits Noncoherent p) n ≡ Nothing))
      → candidate_at kind s w p ≡ none
  unfolding candidate_at survivor
  later_none e c = ap (survivor s w) (later_fails kind p (w.bits Coherent p) (w.bits Noncoherent p) (min s.level kind.most) (exact_none e) c)
