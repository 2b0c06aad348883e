-- The header check of either kind.
--     header_checked     counted positions that are below 256, and then the check of a kind
-- Assumes nothing.
use mathlib.Core.Path.{◌≡◌, refl, sym, ap, ◌∙◌}
use mathlib.Core.Bool.{Bool, true, false, cond, true≢false}
use mathlib.Core.Option.{none, some}
use Prim.Native.Nat.{ℕ, ◌≤◌}
use native.Mathlib.Omega.{arith}
use Rattle.std.proofs.lemmas.Bool.Decides.{nat_tests}
use Rattle.std.specs.Prelude.{Result, Ok, Err}
use Rattle.std.specs.Result.{MatchResult}
use Rattle.lists.specs.Told.{Told, refused, tell, and_then}
use Rattle.lists.proofs.Telling.{same_values, not_done}
use Rattle.refusals.specs.declared.Refusal.{Refusal}
use Rattle.refusals.specs.Refusals.{number, told}
use Rattle.annex10.specs.declared.Repairs.{Repairs}
use Rattle.annex10.specs.declared.Repairs.TheVariants.{None, One, Two}
use Rattle.annex10.specs.Repair.{inside}
use Rattle.mode_s.specs.Header.{header_of}
use Rattle.mode_s.specs.Counted.{counted_repairs}
use Rattle.search.specs.Kinds.{Kind}
use Rattle.khlongrae.specs.Headers.{header_check}
use Rattle.khlongrae.specs.Inner.{narrow_repairs}

wider : (b : ℕ) (ρ : Repairs) → b ≤ 32 → inside 32 ρ ≡ false → inside b ρ ≡ false
wider b None h e = absurd (true≢false e)
wider b (One j) h e = grind (arith, nat_tests)
wider b (Two j k) h e = grind (arith, nat_tests)

outside : (kind : Kind) (first : ℕ) (ρ : Repairs) → kind.bytes ≤ 32 → inside 32 ρ ≡ false → header_of kind.bytes kind.header first ρ ≡ refused 8
unfolding header_of
outside kind first ρ b h = rw (wider kind.bytes ρ b h)

module _ (kind : Kind) (first : ℕ) (b : kind.bytes ≤ 32) (x : Result Bool Refusal) where
  abbrev Checked : Result Repairs Refusal → Type 0
  Checked r = MatchResult r (λ ρ. told x ≡ header_of kind.bytes kind.header first ρ) (λ e. x ≡ Err e)

  -- what is refused of the positions is the answer
  handed_on : {e : Refusal} {n : ℕ} → x ≡ Err e → ◌≡◌ {A = Told Repairs} (refused (number e)) (refused n) → told x ≡ refused n
  handed_on q h = ap told q ∙ ap refused (ap (λ (t : Told Repairs). t.0) h)

  narrow : (ρ : Repairs) (t : Bool) (r : Result Repairs Refusal) → inside 32 ρ ≡ t → told r ≡ tell (cond t 0 8) ρ → Checked r
      → told x ≡ header_of kind.bytes kind.header first ρ
  narrow ρ true (Ok σ) i h m = rw (same_values h) at m
  narrow ρ true (Err e) i h m = absurd (not_done h)
  narrow ρ false (Ok σ) i h m = absurd (not_done (sym h))
  narrow ρ false (Err e) i h m = handed_on m h ∙ sym (outside kind first ρ b i)

  each : (t : Told Repairs) (r : Result Repairs Refusal) → told r ≡ and_then t (λ ρ. tell (cond (inside 32 ρ) 0 8) ρ) → Checked r
      → told x ≡ and_then t (header_of kind.bytes kind.header first)
  each (n, some ρ) r h m = narrow ρ (inside 32 ρ) r refl h m
  each (n, none) (Ok σ) h m = absurd (not_done (sym h))
  each (n, none) (Err e) h m = handed_on m h

pub header_checked : (kind : Kind) (first count j k : ℕ) (r : Result Repairs Refusal) (x : Result Bool Refusal) → kind.bytes ≤ 32
    → told r ≡ narrow_repairs count j k → MatchResult r (λ ρ. told x ≡ header_of kind.bytes kind.header first ρ) (λ e. x ≡ Err e)
    → told x ≡ header_check kind first count j k
unfolding header_check narrow_repairs
header_checked kind first count j k r x b h m = each kind first b x (counted_repairs count j k) r h m
