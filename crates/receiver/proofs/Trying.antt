-- One trial as the code makes it: what is found, and the header check of a message's first byte.
--     lookup_missed    nothing is found: the trial fails
--     lookup_passed, lookup_failed     positions are found: the trial passes exactly if the header check says so
--     same_checked     a trial looks at no more of a message than its first byte
-- Assumes nothing.
use Rattle.std.specs.Prelude as code
use Rattle.std.specs.Result.{result_unwrap_or}
use mathlib.Core.Path.{◌≡◌, refl, sym, ap, ◌∙◌, subst}
use mathlib.Core.Bool.{Bool, true, false, cond}
use mathlib.Core.List.{List, [], ◌∷◌}
use Prim.Native.Nat.{ℕ, ◌<◌}
use native.Mathlib.Omega.{arith}
use borrow.Author.Tests.{eq-eqb, ne_eqb}
use lib.Dec.{eqb}
use lib.ListN.{length, get_or}
use Rattle.annex10.specs.Repair.{count, inside, repaired_head}
use Rattle.annex10.specs.Any.{only}
use Rattle.annex10.specs.declared.Repairs.{Repairs}
use Rattle.annex10.specs.declared.Found.{Found}
use Rattle.annex10.specs.declared.Found.TheVariants.{At, Nothing}
use Rattle.annex10.proofs.Repairing.{not_there, head_is}
use Rattle.refusals.specs.declared.Refusal.{Refusal}
use Rattle.refusals.specs.Refusals.{told}
use Rattle.mode_s.specs.Header.{header_of}
use Rattle.place.specs.declared.Place.{Place}
use Rattle.place.specs.declared.Slicer.{Slicer}
use Rattle.place.specs.declared.location.Location.{Location}
use Rattle.search.specs.declared.Tried.TheVariants.{Pass, Fail}
use Rattle.search.specs.Kinds.{Kind}
use Rattle.search.specs.Trials.{checked}
use Rattle.receiver.specs.Inner.{found_inside}
use Rattle.receiver.proofs.Never.{unwrapped}

-- the check of a message's first byte is the check of the repaired message, which lies where the positions do
checked_head : (k : Kind) (p : Place) (m : List ℕ) (number : ℕ) (slicer : Slicer) (ρ : Repairs) (v : code.Result Bool Refusal) {b : Bool} → 0 < length m
    → inside k.bytes ρ ≡ true → told v ≡ header_of k.bytes k.header (get_or m 0 0) ρ → b ≡ result_unwrap_or v false
    → cond b (Pass (record { place = p; trial = number; slicer = slicer; repairs = ρ })) Fail ≡ checked k p number slicer m (At ρ)
unfolding header_of checked
checked_head k p m number slicer ρ v h e g f =
    let r : Location = record { place = p; trial = number; slicer = slicer; repairs = ρ } in
    ap (λ (b : Bool). cond b (Pass r) Fail) (unwrapped v false f (rw e at g)) ∙ ap (λ (b : ℕ). cond (k.header b) (Pass r) Fail) (sym (head_is m ρ h))

-- no more is looked at
pub same_checked : (k : Kind) (p : Place) (m : List ℕ) (number : ℕ) (slicer : Slicer) (f : Found) {byte : ℕ} → 0 < length m → byte ≡ get_or m 0 0
    → checked k p number slicer (byte ∷ []) f ≡ checked k p number slicer m f
unfolding checked
same_checked k p m number slicer Nothing h e = refl
same_checked k p m number slicer (At ρ) {byte} h e =
    let r : Location = record { place = p; trial = number; slicer = slicer; repairs = ρ } in
    ap (λ (b : ℕ). cond (k.header b) (Pass r) Fail) (head_is (byte ∷ []) ρ (omega arith) ∙ ap (λ (b : ℕ). repaired_head b ρ) e ∙ sym (head_is m ρ h))

-- what is found, if it is n positions
pub only_hit : (f : Found) {ρ : Repairs} (n : ℕ) {k : ℕ} → f ≡ At ρ → k ≡ count ρ → n ≡ k → At ρ ≡ only f n
only_hit f n {k} e q h = rw e (rw (eq-eqb n _ (h ∙ q)))

pub only_miss : (f : Found) {ρ : Repairs} (n : ℕ) {k : ℕ} → f ≡ At ρ → k ≡ count ρ → (n ≡ k → ⊥) → Nothing ≡ only f n
only_miss f n {k} e q h = rw e (rw (ne_eqb n _ (λ z. h (z ∙ sym q))))

-- some of what is found lies inside where all of it does
only_inside : (k : Kind) (o : Found) (n : ℕ) {ρ : Repairs} → found_inside k o ≡ true → only o n ≡ At ρ → inside k.bytes ρ ≡ true
only_inside k Nothing n h e = not_there e
only_inside k (At σ) n {ρ} h e = go (eqb n (count σ)) e
  where
    go : (b : Bool) → cond b (At σ) Nothing ≡ At ρ → inside k.bytes ρ ≡ true
    go true q = let s : σ ≡ ρ = cc in subst (λ (x : Repairs). inside k.bytes x ≡ true) s h
    go false q = not_there q

module _ (k : Kind) (p : Place) (number : ℕ) (slicer : Slicer) (byte n : ℕ) (o : Found) {f : Found} (e : f ≡ only o n) where
  pub lookup_missed : f ≡ Nothing → Fail ≡ checked k p number slicer (byte ∷ []) (only o n)
  unfolding checked
  lookup_missed z = rw (← e, z)

  lookup_found : {ρ : Repairs} (v : code.Result Bool Refusal) {b : Bool} → found_inside k o ≡ true → f ≡ At ρ → told v ≡ header_of k.bytes k.header byte ρ
      → b ≡ result_unwrap_or v false
      → cond b (Pass (record { place = p; trial = number; slicer = slicer; repairs = ρ })) Fail ≡ checked k p number slicer (byte ∷ []) (only o n)
  lookup_found {ρ} v i z g t =
      let q : only o n ≡ At ρ = sym e ∙ z in
      rw q (checked_head k p (byte ∷ []) number slicer ρ v (omega arith) (only_inside k o n i q) g t)

  pub lookup_passed : {ρ : Repairs} (v : code.Result Bool Refusal) {b : Bool} → found_inside k o ≡ true → f ≡ At ρ → told v ≡ header_of k.bytes k.header byte ρ
      → b ≡ result_unwrap_or v false → b ≡ true → Pass (record { place = p; trial = number; slicer = slicer; repairs = ρ }) ≡ checked k p number slicer (byte ∷ []) (only o n)
  lookup_passed v i z g t h = rw h at (lookup_found v i z g t)

  pub lookup_failed : {ρ : Repairs} (v : code.Result Bool Refusal) {b : Bool} → found_inside k o ≡ true → f ≡ At ρ → told v ≡ header_of k.bytes k.header byte ρ
      → b ≡ result_unwrap_or v false → b ≡ false → Fail ≡ checked k p number slicer (byte ∷ []) (only o n)
  lookup_failed v i z g t h = rw h at (lookup_found v i z g t)
