-- A message mended by trial, for messages of any length.
--     seek_more, seek_here      a search that goes on, and one that ends
--     mended_is                 what is found by turning over and dividing is what clears the remainder
--     clear_already, not_clear  a remainder of 0 needs no position, and no other is cleared by none
--     other_length, level_high, repair_done     what a repair answers
-- Assumes nothing.
use mathlib.Core.Path.{◌≡◌, refl, sym, ap, ◌∙◌, fun_ext}
use mathlib.Core.Bool.{Bool, true, false, cond}
use mathlib.Core.List.{List}
use mathlib.Core.Logic.{◌≢◌}
use Prim.Native.Nat.{ℕ, zero, suc, min, ◌+◌, ◌<◌, ◌≤◌}
use native.Mathlib.Decide.{dec_lt}
use native.Mathlib.Numerals.{add-one}
use native.Mathlib.Omega.{arith}
use borrow.Author.Tests.{eqb-true, eqb-false, eq-eqb, ne_eqb, le-leb, lt-leb}
use lib.Dec.{eqb}
use lib.ListN.{length}
use Rattle.lists.specs.Told.{done, refused}
use Rattle.annex10.specs.Remainder.{remainder}
use Rattle.annex10.specs.declared.Repairs.{Repairs}
use Rattle.annex10.specs.declared.Repairs.TheVariants.{None}
use Rattle.annex10.specs.declared.Found.{Found}
use Rattle.annex10.specs.declared.Found.TheVariants.{At, Nothing}
use Rattle.annex10.specs.Repair.{repaired, pattern, seek, choose, fitting, clearing}
use Rattle.annex10.specs.Any.{up_to, clearing_up_to}
use Rattle.annex10.proofs.UpTo.{cleared_up_to}
use Rattle.annex10.specs.Mend.{tried, mended, repair_of}
use Rattle.annex10.proofs.Repairing.{clears_when}

-- ---- a search

pub seek_more : (f : ℕ → Found) (n : ℕ) → seek f n ≡ Nothing → f n ≡ Nothing → seek f (n + 1) ≡ Nothing
unfolding seek
seek_more f n e h = ap (seek f) (add-one n) ∙ rw (e, h)

pub seek_here : (f : ℕ → Found) (n j : ℕ) {ρ : Repairs} → j < n → seek f j ≡ Nothing → f j ≡ At ρ → seek f n ≡ At ρ
unfolding seek
seek_here f zero j h e g = absurd (omega arith)
seek_here f (suc n) j h e g = elim (dec_lt j n) [
  | yes l ↦ rw (seek_here f n j l e g)
  | no l ↦ let s : n ≡ j = omega arith in rw (s, e, g)
]

-- ---- by the remainder

tried_fits : (m : List ℕ) (ρ : Repairs) → tried m ρ ≡ fitting (length m) (remainder m) ρ
unfolding tried fitting
tried_fits m ρ = go (eqb (remainder (repaired m ρ)) 0) refl
  where
    go : (b : Bool) → eqb (remainder (repaired m ρ)) 0 ≡ b → cond b (At ρ) Nothing ≡ cond (eqb (pattern (length m) ρ) (remainder m)) (At ρ) Nothing
    go true e = rw (eq-eqb _ _ ((clears_when (length m) m ρ refl).0 (eqb-true _ _ e)))
    go false e = rw (ne_eqb _ _ (λ q. eqb-false _ _ e ((clears_when (length m) m ρ refl).1 q)))

-- what clears a remainder is a choice
clearing_chosen : (bytes n r : ℕ) → clearing bytes n r ≡ choose (fitting bytes r) bytes n
unfolding clearing choose
clearing_chosen bytes zero r = refl
clearing_chosen bytes (suc zero) r = refl
clearing_chosen bytes (suc (suc zero)) r = refl
clearing_chosen bytes (suc (suc (suc n))) r = refl

-- exactly n positions
tried_is : (m : List ℕ) (n : ℕ) → choose (tried m) (length m) n ≡ clearing (length m) n (remainder m)
tried_is m n = ap (λ (f : Repairs → Found). choose f (length m) n) (fun_ext (tried_fits m)) ∙ sym (clearing_chosen (length m) n (remainder m))

pub mended_is : (level : ℕ) (m : List ℕ) → mended level m ≡ clearing_up_to (length m) level (remainder m)
unfolding mended
mended_is level m = ap (λ (f : ℕ → Found). up_to f level) (fun_ext (tried_is m)) ∙ sym (cleared_up_to (length m) level (remainder m))

-- ---- no position

pub clear_already : (m : List ℕ) → remainder m ≡ 0 → choose (tried m) (length m) 0 ≡ At None
unfolding choose tried repaired
clear_already m z = rw z

pub not_clear : (m : List ℕ) → remainder m ≢ 0 → choose (tried m) (length m) 0 ≡ Nothing
unfolding choose tried repaired
not_clear m z = rw (ne_eqb (remainder m) 0 z)

-- ---- the answer

module _ (bytes most level : ℕ) (m : List ℕ) where
  pub other_length : length m ≢ bytes → refused 2 ≡ repair_of bytes most level m
  unfolding repair_of
  other_length h = rw (ne_eqb (length m) bytes h)

  pub level_high : length m ≡ bytes → 2 < level → refused 4 ≡ repair_of bytes most level m
  unfolding repair_of
  level_high e h = rw (eq-eqb (length m) bytes e, lt-leb level 2 h)

  pub repair_done : {n : ℕ} {f : Found} → length m ≡ bytes → level ≤ 2 → n ≡ min level most → f ≡ mended n m → done f ≡ repair_of bytes most level m
  unfolding repair_of
  repair_done e l q g = rw (eq-eqb (length m) bytes e, le-leb level 2 l, g, q)
