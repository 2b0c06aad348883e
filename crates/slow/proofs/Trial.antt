-- A choice of positions, tried: turned over in a copy and divided.
--     turned            what is divided is the message with the positions turned over
--     clears_it, leaves_it     what is tried, by whether it clears
-- Assumes nothing.
use mathlib.Core.Path.{◌≡◌, refl, sym, ap, ◌∙◌}
use mathlib.Core.Bool.{Bool, true, false}
use mathlib.Core.List.{List}
use Prim.Native.Nat.{ℕ}
use lib.Dec.{eqb}
use lib.ListN.{length}
use Rattle.annex10.specs.declared.Repairs.{Repairs}
use Rattle.annex10.specs.declared.Found.TheVariants.{At, Nothing}
use Rattle.annex10.specs.Length.{message_length}
use Rattle.annex10.specs.Remainder.{remainder}
use Rattle.annex10.specs.Repair.{inside, repaired}
use Rattle.annex10.specs.Mend.{tried}
use Rattle.mode_s.specs.Corrected.{corrected}
use Rattle.mode_s.proofs.Correcting.{corrected_done}

module _ (m : List ℕ) (ρ : Repairs) where
  pub turned : message_length (length m) ≡ true → inside (length m) ρ ≡ true → {a : ℕ} {x y : List ℕ} → (a, x) ≡ corrected ρ y → y ≡ m → x ≡ repaired m ρ
  turned t i e q = ap (λ (z : ℕ × List ℕ). z.1) (e ∙ ap (corrected ρ) q ∙ corrected_done (length m) m ρ t refl i)

  pub clears_it : {b : Bool} → b ≡ eqb (remainder (repaired m ρ)) 0 → b ≡ true → tried m ρ ≡ At ρ
  unfolding tried
  clears_it e t = rw (sym e ∙ t)

  pub leaves_it : {b : Bool} → b ≡ eqb (remainder (repaired m ρ)) 0 → b ≡ false → tried m ρ ≡ Nothing
  unfolding tried
  leaves_it e t = rw (sym e ∙ t)
