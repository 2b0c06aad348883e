-- Fields with a separator between two, split at the separators, are the fields.
-- Assumes nothing.
use mathlib.Core.Path.{◌≡◌, refl, sym, ap, ◌∙◌}
use mathlib.Core.Bool.{cond}
use mathlib.Core.List.{List, [], ◌∷◌, ◌++◌, append-nil, append_assoc, append_cancel_right, head-eq_of_cons-eq, tail-eq_of_cons-eq}
use Prim.Native.Nat.{ℕ, ◌<◌, ◌≤◌}
use native.Mathlib.Omega.{arith}
use borrow.Author.Tests.{eq-eqb, ne_eqb}
use lib.Dec.{eqb}
use lib.ListN.{length}
use Rattle.listing.specs.Lines.{line}

-- each byte is above s
abbrev pub Above : ℕ → List ℕ → Type 0
Above s [] = Unit
Above s (b ∷ bs) = (s < b) × Above s bs

abbrev pub Aboves : ℕ → List (List ℕ) → Type 0
Aboves s [] = Unit
Aboves s (f ∷ fs) = Above s f × Aboves s fs

pub above_both : (s : ℕ) (xs ys : List ℕ) → Above s xs → Above s ys → Above s (xs ++ ys)
above_both s [] ys p q = q
above_both s (x ∷ xs) ys p q = (p.0, above_both s xs ys p.1 q)

pub above_less : (s t : ℕ) (xs : List ℕ) → s ≤ t → Above t xs → Above s xs
above_less s t [] h p = tt
above_less s t (x ∷ xs) h p = (let k = p.0 in omega arith, above_less s t xs h p.1)

-- a byte more at the start of the first
abbrev on_first : ℕ → List (List ℕ) → List (List ℕ)
on_first b [] = []
on_first b (f ∷ fs) = (b ∷ f) ∷ fs

abbrev split : ℕ → List ℕ → List (List ℕ)
split s [] = [] ∷ []
split s (b ∷ bs) = cond (eqb b s) ([] ∷ split s bs) (on_first b (split s bs))

abbrev pub spaced : ℕ → List (List ℕ) → List ℕ
spaced s [] = []
spaced s (f ∷ []) = f
spaced s (f ∷ g ∷ fs) = f ++ (s ∷ spaced s (g ∷ fs))

-- what stands before the first separator
split_first : (s : ℕ) (f t : List ℕ) (fs : List (List ℕ)) → Above s f → split s t ≡ [] ∷ fs → split s (f ++ t) ≡ f ∷ fs
split_first s [] t fs p e = e
split_first s (b ∷ f) t fs p e = let h = p.0 in rw (ne_eqb b s (λ q. omega arith), split_first s f t fs p.1 e)

split_spaced : (s : ℕ) (f : List ℕ) (fs : List (List ℕ)) → Aboves s (f ∷ fs) → split s (spaced s (f ∷ fs)) ≡ f ∷ fs
split_spaced s f [] p = ap (split s) (sym (append-nil f)) ∙ split_first s f [] [] p.0 refl
split_spaced s f (g ∷ fs) p = split_first s f (s ∷ spaced s (g ∷ fs)) (g ∷ fs) p.0 (rw (eq-eqb s s refl, split_spaced s g fs p.1))

pub spaced_same : (s : ℕ) (f g : List ℕ) (fs gs : List (List ℕ)) → Aboves s (f ∷ fs) → Aboves s (g ∷ gs)
    → spaced s (f ∷ fs) ≡ spaced s (g ∷ gs) → f ∷ fs ≡ g ∷ gs
spaced_same s f g fs gs p q e = sym (split_spaced s f fs p) ∙ ap (split s) e ∙ split_spaced s g gs q

line_is : (f : List ℕ) (fs : List (List ℕ)) → line (f ∷ fs) ≡ spaced 0x20 (f ∷ fs) ++ (0x0A ∷ [])
unfolding line
line_is f [] = refl
line_is f (g ∷ fs) = rw (line_is g fs) (sym (append_assoc f (0x20 ∷ spaced 0x20 (g ∷ fs)) (0x0A ∷ [])))

-- equal lines have equal fields
pub line_same : (f g : List ℕ) (fs gs : List (List ℕ)) → Aboves 0x20 (f ∷ fs) → Aboves 0x20 (g ∷ gs) → line (f ∷ fs) ≡ line (g ∷ gs) → f ∷ fs ≡ g ∷ gs
line_same f g fs gs p q e = spaced_same 0x20 f g fs gs p q (append_cancel_right _ _ (0x0A ∷ []) (sym (line_is f fs) ∙ e ∙ line_is g gs))

-- ---- lines one after the other

above_spaced : (t s : ℕ) (fs : List (List ℕ)) → t < s → Aboves s fs → Above t (spaced s fs)
above_spaced t s [] h p = tt
above_spaced t s (f ∷ []) h p = above_less t s f (omega arith) p.0
above_spaced t s (f ∷ g ∷ fs) h p = above_both t f _ (above_less t s f (omega arith) p.0) (h, above_spaced t s (g ∷ fs) h p.1)

-- a line feed at its end, and none before
pub record Ended (t : List ℕ) : Type 0 where
  pub body : List ℕ
  pub above : Above 0x0A body
  pub is : t ≡ body ++ (0x0A ∷ [])

pub line_ended : (f : List ℕ) (fs : List (List ℕ)) → Aboves 0x20 (f ∷ fs) → Ended (line (f ∷ fs))
line_ended f fs p = record { body = spaced 0x20 (f ∷ fs); above = above_spaced 0x0A 0x20 (f ∷ fs) (omega arith) p; is = line_is f fs }

two : {t u : List ℕ} (f : Ended t) (g : Ended u) → t ++ u ≡ spaced 0x0A (f.body ∷ g.body ∷ [] ∷ [])
two {t} {u} f g =
    ap (λ (x : List ℕ). x ++ u) f.is
    ∙ ap (λ (x : List ℕ). (f.body ++ (0x0A ∷ [])) ++ x) g.is
    ∙ append_assoc f.body (0x0A ∷ []) (g.body ++ (0x0A ∷ []))

module _ {t u : List ℕ} (f : Ended t) (g : Ended u) where
  pub two_same : {v w : List ℕ} (h : Ended v) (i : Ended w) → t ++ u ≡ v ++ w → (t ≡ v) × (u ≡ w)
  two_same h i e =
      let q = spaced_same 0x0A f.body h.body (g.body ∷ [] ∷ []) (i.body ∷ [] ∷ []) (f.above, (g.above, (tt, tt))) (h.above, (i.above, (tt, tt))) (sym (two f g) ∙ e ∙ two h i) in (
        f.is ∙ ap (λ (x : List ℕ). x ++ (0x0A ∷ [])) (head-eq_of_cons-eq q) ∙ sym h.is,
        g.is ∙ ap (λ (x : List ℕ). x ++ (0x0A ∷ [])) (head-eq_of_cons-eq (tail-eq_of_cons-eq q)) ∙ sym i.is,
      )

  pub two_not_one : {v : List ℕ} (h : Ended v) → t ++ u ≡ v → ⊥
  two_not_one h e =
      let q = spaced_same 0x0A f.body h.body (g.body ∷ [] ∷ []) ([] ∷ []) (f.above, (g.above, (tt, tt))) (h.above, (tt, tt)) (sym (two f g) ∙ e ∙ h.is) in
      omega (arith, ap length q)
