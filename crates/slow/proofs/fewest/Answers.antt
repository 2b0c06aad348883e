-- `slow::fewest` meets its contract: no position, else one, else two, as far as the level asks. Assumes nothing.
use mathlib.Core.Path.{◌≡◌, sym, ◌∙◌}
use mathlib.Core.List.{List}
use mathlib.Core.Logic.{◌≢◌}
use Prim.Native.Nat.{ℕ}
use native.Mathlib.Omega.{arith}
use lib.ListN.{length}
use Rattle.annex10.specs.declared.Repairs.{Repairs}
use Rattle.annex10.specs.declared.Found.{Found}
use Rattle.annex10.specs.declared.Found.TheVariants.{At, Nothing}
use Rattle.annex10.specs.Remainder.{remainder}
use Rattle.annex10.specs.Repair.{choose}
use Rattle.annex10.specs.Mend.{tried, mended}
use Rattle.annex10.proofs.Mending.{clear_already, not_clear}
use Rattle.annex10.proofs.UpTo.{none_found, none_asked, one_asked, one_found, two_asked}
use Rattle.slow.proofs.fewest.Goals as goal

-- what is found with exactly so many positions
abbrev exactly : List ℕ → ℕ → Found
exactly m = choose (tried m) (length m)

module _ (m : List ℕ) (level : ℕ) {x : ℕ} (e : x ≡ remainder m) (h : x ≢ 0) where
  unclear : exactly m 0 ≡ Nothing
  unclear = not_clear m (λ z. h (e ∙ z))

  by_none : level ≡ 0 → Nothing ≡ mended level m
  unfolding mended
  by_none l = sym (none_asked (exactly m) level unclear l)

  by_one : {r : Found} {ρ : Repairs} → r ≡ exactly m 1 → r ≡ At ρ → level ≢ 0 → At ρ ≡ mended level m
  unfolding mended
  by_one g f l = sym (one_found (exactly m) level unclear (sym g ∙ f) l)

  not_by_one : {r : Found} → r ≡ exactly m 1 → r ≡ Nothing → level ≡ 1 → Nothing ≡ mended level m
  unfolding mended
  not_by_one g f l = sym (one_asked (exactly m) level unclear l ∙ sym g ∙ f)

  by_two : {r s : Found} → r ≡ exactly m 1 → r ≡ Nothing → level ≡ 2 → s ≡ exactly m 2 → s ≡ mended level m
  unfolding mended
  by_two g f l t = t ∙ sym (two_asked (exactly m) level unclear (sym g ∙ f) l)

pub returns-then-crc24-eq0 : goal.returns-then-crc24-eq0
unfolding mended
returns-then-crc24-eq0 c = let m = c.args.message.now in
    sym (none_found (exactly m) c.args.level (clear_already m (sym c.crc24.ensures ∙ c.if-crc24-eq0.true)))

pub returns-then-level-eq0 : goal.returns-then-level-eq0
returns-then-level-eq0 c = by_none c.args.message.now c.args.level c.crc24.ensures c.if-crc24-eq0.false c.if-level-eq0.true

pub returns-in-At : goal.returns-in-At
returns-in-At c = by_one c.args.message.now c.args.level c.crc24.ensures c.if-crc24-eq0.false c.one.ensures c.in-At.is c.if-level-eq0.false

pub returns-in-Nothing : goal.returns-in-Nothing
returns-in-Nothing c = by_two c.args.message.now c.args.level c.crc24.ensures c.if-crc24-eq0.false c.one.ensures c.in-Nothing.is c.if-level-eq2.true c.two.ensures

pub returns-in-Nothing-2 : goal.returns-in-Nothing-2
returns-in-Nothing-2 c =
    let l : c.args.level ≡ 1 = omega (arith, c.requires.1, c.if-level-eq0.false, c.if-level-eq2.false) in
    not_by_one c.args.message.now c.args.level c.crc24.ensures c.if-crc24-eq0.false c.one.ensures c.in-Nothing-2.is l
