-- What `try_decode` answers, for long messages.
--     try_opened     which calls are taken
--     by_none, by_one, by_two    what clears a remainder
-- Assumes nothing.
use mathlib.Core.Path.{◌≡◌, refl, sym, ◌∙◌}
use mathlib.Core.Bool.{Bool, true, false, cond}
use mathlib.Core.List.{List}
use mathlib.Core.Logic.{◌≢◌}
use Prim.Native.Nat.{ℕ, ◌≤◌}
use native.Mathlib.Omega.{arith}
use borrow.Author.Tests.{eqb-true, ne_eqb}
use lib.Dec.{eqb, leb}
use lib.ListN.{length}
use Rattle.annex10.specs.Repair.{choose, fitting, clearing}
use Rattle.annex10.specs.Any.{clearing_any}
use Rattle.annex10.specs.declared.Found.{Found}
use Rattle.annex10.specs.declared.Found.TheVariants.{At, Nothing}
use Rattle.annex10.specs.declared.Repairs.{Repairs}
use Rattle.annex10.specs.declared.Repairs.TheVariants.{None}
use Rattle.annex10.proofs.Repairing.{pattern_none}
use Rattle.place.specs.declared.Place.{Place}
use Rattle.place.specs.All.{listed}
use Rattle.place.proofs.Within.{listed_gives}
use Rattle.receiver.specs.Tries.{try_number}

module _ (level : ℕ) (coherent noncoherent : List ℕ) (p : Place) where
  pub record TryTaken : Type 0 where
    pub size : length coherent ≡ 18
    pub other : length noncoherent ≡ 18
    pub low : p.bit ≤ 32

  tested : (t u v w : Bool) → eqb (length coherent) 18 ≡ t → eqb (length noncoherent) 18 ≡ u → listed 31 p ≡ w
      → ◌≡◌ {A = ℕ} (cond t (cond u (cond v (cond w 0 7) 4) 2) 2) 0 → TryTaken
  tested true true true true a b s e = record { size = eqb-true _ _ a; other = eqb-true _ _ b; low = omega (arith, (listed_gives 31 p s).to) }
  tested true true true false a b s e = absurd (omega arith)
  tested true true false w a b s e = absurd (omega arith)
  tested true false v w a b s e = absurd (omega arith)
  tested false u v w a b s e = absurd (omega arith)

  pub try_opened : {k : ℕ} → k ≡ try_number level coherent noncoherent p → k ≡ 0 → TryTaken
  unfolding try_number
  try_opened e z = tested (eqb (length coherent) 18) (eqb (length noncoherent) 18) (leb level 2) (listed 31 p) refl refl refl (sym e ∙ z)

module _ (crc : ℕ) where
  pub by_none : crc ≡ 0 → At None ≡ clearing_any 14 crc
  unfolding clearing_any clearing choose fitting
  by_none e = rw (e, pattern_none 14)

  none_by_none : crc ≢ 0 → clearing 14 0 crc ≡ Nothing
  unfolding clearing choose fitting
  none_by_none h = rw (pattern_none 14, ne_eqb 0 crc (λ e. h (sym e)))

  pub by_one : {f : Found} {ρ : Repairs} → crc ≢ 0 → f ≡ clearing 14 1 crc → f ≡ At ρ → f ≡ clearing_any 14 crc
  unfolding clearing_any
  by_one h e g = rw (none_by_none h, ← e, g)

  pub by_two : {f g : Found} → crc ≢ 0 → f ≡ clearing 14 1 crc → f ≡ Nothing → g ≡ clearing 14 2 crc → g ≡ clearing_any 14 crc
  unfolding clearing_any
  by_two h e n g = g ∙ rw (none_by_none h, ← e, n)
