-- What the tables say is what a trial finds.
-- Assumes nothing.
use mathlib.Core.Path.{◌≡◌, refl, sym, ap, ◌∙◌, subst}
use mathlib.Core.Bool.{Bool, true, false, cond}
use mathlib.Core.List.{List}
use mathlib.Core.Logic.{◌↔◌}
use Prim.Native.Nat.{ℕ}
use Rattle.std.specs.Prelude.{Result}
use native.Mathlib.Omega.{arith}
use borrow.Author.Tests.{eq-eqb}
use lib.Dec.{eqb}
use lib.ListN.{length}
use Rattle.annex10.specs.Remainder.{remainder}
use Rattle.annex10.specs.Repair.{count}
use Rattle.annex10.specs.Any.{clearing_up_to, only}
use Rattle.annex10.specs.Mend.{mended}
use Rattle.annex10.specs.declared.Repairs.{Repairs}
use Rattle.annex10.specs.declared.Found.{Found}
use Rattle.annex10.specs.declared.Found.TheVariants.{At, Nothing}
use Rattle.annex10.proofs.Mending.{mended_is}
use Rattle.annex10.proofs.Repairing.{not_there, clears_when, clearing_is}
use Rattle.annex10.proofs.Unique.{apart_14}
use Rattle.annex10.proofs.UpTo.{up_to_found, only_up_to}
use Rattle.refusals.specs.declared.Refusal.{Refusal}
use Rattle.refusals.specs.Refusals.{told}
use Rattle.refusals.proofs.Told.{untold, told_back}
use Rattle.claims.specs.Mended.{ClearedBy, Mends, SameRepair}

abbrev tables : ℕ → List ℕ → Found
tables level m = clearing_up_to 14 level (remainder m)

-- what is found with so many positions is what is found
only_is : (o : Found) (n : ℕ) {ρ : Repairs} → only o n ≡ At ρ → o ≡ At ρ
only_is Nothing n e = e
only_is (At σ) n {ρ} e = go (eqb n (count σ)) e
  where
    go : (b : Bool) → cond b (At σ) Nothing ≡ At ρ → At σ ≡ At ρ
    go true q = q
    go false q = not_there q

right : (level : ℕ) (m : List ℕ) → length m ≡ 14 → (ρ : Repairs) → (tables level m ≡ At ρ) ↔ ClearedBy level m ρ
right level m e ρ = (
  λ q. let c = up_to_found 14 (remainder m) level q in
      record { positions = c.clears.proper; few = omega (arith, c.few); clear = (clears_when 14 m ρ e).1 c.clears.fits },
  λ c. only_is (tables level m) (count ρ)
      (only_up_to 14 (remainder m) apart_14 level (count ρ) c.few
      ∙ clearing_is 14 (remainder m) apart_14 ρ c.positions ((clears_when 14 m ρ e).0 c.clear) (count ρ)
      ∙ rw (eq-eqb (count ρ) (count ρ) refl)),
)

none_right : (level : ℕ) (m : List ℕ) → length m ≡ 14 → (tables level m ≡ Nothing) ↔ ((ρ : Repairs) → ¬ ClearedBy level m ρ)
none_right level m e = (λ q ρ c. not_there (sym q ∙ (right level m e ρ).1 c), λ h. go h (tables level m) refl)
  where
    go : ((ρ : Repairs) → ¬ ClearedBy level m ρ) → (o : Found) → tables level m ≡ o → o ≡ Nothing
    go h Nothing q = refl
    go h (At ρ) q = absurd (h ρ ((right level m e ρ).0 q))

same : (level : ℕ) (m : List ℕ) → length m ≡ 14 → tables level m ≡ mended level m
same level m e = sym (mended_is level m ∙ ap (λ (n : ℕ). clearing_up_to n level (remainder m)) e)

by_tables : Mends tables
by_tables = record { finds = λ level m l e. right level m e; nothing = λ level m l e. none_right level m e }

-- an answer is known from what it tells
one_answer : (a b : Result Found Refusal) → told a ≡ told b → a ≡ b
one_answer a b e = sym (told_back a) ∙ ap untold e ∙ told_back b

pub same_repair : SameRepair tables mended
same_repair =
    record {
      equal = λ level m l e. same level m e;
      by_tables = by_tables;
      by_trial =
          record {
            finds = λ level m l e ρ. subst (λ (o : Found). (o ≡ At ρ) ↔ ClearedBy level m ρ) (same level m e) (right level m e ρ);
            nothing = λ level m l e. subst (λ (o : Found). (o ≡ Nothing) ↔ ((ρ : Repairs) → ¬ ClearedBy level m ρ)) (same level m e) (none_right level m e);
          };
      answers = λ level m a b p q. one_answer a b (p ∙ sym q);
    }
