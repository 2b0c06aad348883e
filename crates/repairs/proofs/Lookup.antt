-- What a search in a table that keeps its rule finds is `clearing`, and nothing is missed; in no part is nothing to be found.
-- Assumes nothing.
use mathlib.Core.Path.{◌≡◌, sym, ap, ◌∙◌, subst}
use mathlib.Core.List.{List}
use mathlib.Core.Logic.{⊎_elim}
use Prim.Native.Nat.{ℕ, ◌/◌, ◌^◌, ◌≤◌, ◌<◌}
use native.Mathlib.Nat.{eq-or-lt_of_le, le_of_eq, le_of_lt}
use native.Mathlib.Decide.{dec_lt}
use native.Mathlib.Omega.{arith}
use borrow.Author.Tests.{tests}
use lib.ListN.{get_or, length}
use Rattle.std.specs.Prelude.{Result, Ok, Err, MatchOption}
use Rattle.std.specs.Cmp.{ranks}
use Rattle.std.specs.List.Sorted.{IsBinarySearchResult, IsSearchInRange, IsPartitionPoint}
use Rattle.std.specs.Ordering.{nat_cmp, ordering_index, MatchOrdering}
use Rattle.std.specs.Result.{result_ok}
use Rattle.std.specs.declared.cmp.Ordering.{Ordering}
use Rattle.std.specs.declared.cmp.Ordering.TheVariants.{Less, Greater}
use Rattle.std.proofs.lemmas.List.{get_or_default}
use lib.Bits.{bit_and, and_mask}
use Rattle.annex10.specs.declared.Repairs.{Repairs}
use Rattle.annex10.specs.declared.Repairs.TheVariants.{None, One, Two}
use Rattle.annex10.specs.declared.Found.TheVariants.{At, Nothing}
use Rattle.annex10.specs.Repair.{clearing}
use Rattle.annex10.proofs.Repairing.{Clears, looked_up, not_found}
use Rattle.annex10.proofs.Unique.{apart_14}
use Rattle.annex10.proofs.UpTo.{gone_high}
use Rattle.repairs.specs.Inner.{remainder_at, Rising, Stands, Missing, SingleTable, DoubleTable}

-- ---- a binary search by the remainder

-- what an answer of the comparison says
Says : ℕ → ℕ → Ordering → Type 0
Says a b o = MatchOrdering o (a < b) (a ≡ b) (b < a)

said : (a b : ℕ) {o : Ordering} → nat_cmp a b ≡ o → Says a b o
unfolding Says
said a b e = subst (Says a b) e (ranks a b)

higher : (a b crc : ℕ) → a ≤ b → ordering_index (nat_cmp a crc) ≤ ordering_index (nat_cmp b crc)
higher a b crc le = grind (arith, tests)

-- where it finds an entry, and where it finds none
pub place_found : (t : List ℕ) → Rising t → (crc : ℕ) (r : Result ℕ ℕ) → IsSearchInRange r (length t)
    → IsBinarySearchResult (λ y. nat_cmp (y / 256) crc) t r → MatchOption (result_ok r) (Missing t crc) (Stands t crc)
unfolding Says
place_found t up crc (Ok i) l h = record { inside = l; own = said (remainder_at t i) crc (h 0) }
place_found t up crc (Err i) l h = λ j s. elim (dec_lt j i) [
  | yes b ↦ omega (arith, said (remainder_at t j) crc (parted.0 j 0 (omega arith) b), s.own)
  | no n ↦ omega (arith, said (remainder_at t j) crc (parted.1 j 0 (omega arith) s.inside), s.own)
]
  where
    ascends : (p q d : ℕ) → p ≤ q → q < length t → get_or t p d / 256 ≤ get_or t q d / 256
    ascends p q d le lt =
        let e = get_or_default t p d 0 (omega arith) in
        let f = get_or_default t q d 0 lt in
        rw (e, f) (⊎_elim (λ e. le_of_eq (ap (remainder_at t) e)) (λ l. le_of_lt (up p q l lt)) (eq-or-lt_of_le le))

    parted : IsPartitionPoint (λ y. nat_cmp (y / 256) crc ≡ Less) (λ y. nat_cmp (y / 256) crc ≡ Greater) t i
    parted = h (λ a b d le lt. higher (get_or t a d / 256) (get_or t b d / 256) crc (ascends a b d le lt))

-- ---- what it finds is `clearing`

pub single_hit : (t : List ℕ) → SingleTable t → (crc i : ℕ) → Stands t crc i → At (One (bit_and (get_or t i 0) 255)) ≡ clearing 14 1 crc
single_hit t w crc i s =
    ap (λ (j : ℕ). At (One j)) (and_mask (get_or t i 0) 8)
    ∙ sym (looked_up 14 crc apart_14 (One _) (w.proper i s.inside) (w.right i s.inside ∙ s.own))

pub single_miss : (t : List ℕ) → SingleTable t → (crc : ℕ) → Missing t crc → Nothing ≡ clearing 14 1 crc
single_miss t w crc gone = sym (not_found 14 1 crc none)
  where
    none : (ρ : Repairs) → Clears 14 1 crc ρ → ⊥
    none None c = omega (arith, c.many)
    none (One j) c = let (i, l, s) = w.there j c.proper in gone i (record { inside = l; own = s ∙ c.fits })
    none (Two j k) c = omega (arith, c.many)

pub double_hit : (p : ℕ) (t u : List ℕ) → DoubleTable p t u → (crc i : ℕ) → Stands t crc i
    → At (Two (bit_and (get_or t i 0) 255) (get_or u i 0)) ≡ clearing 14 2 crc
double_hit p t u w crc i s =
    ap (λ (j : ℕ). At (Two j (get_or u i 0))) (and_mask (get_or t i 0) 8)
    ∙ sym (looked_up 14 crc apart_14 (Two _ (get_or u i 0)) (w.proper i s.inside) (w.right i s.inside ∙ s.own))

-- a remainder of the part
pub double_miss : (t u : List ℕ) (crc : ℕ) → DoubleTable (crc / 2 ^ 20) t u → Missing t crc → Nothing ≡ clearing 14 2 crc
double_miss t u crc w gone = sym (not_found 14 2 crc none)
  where
    none : (ρ : Repairs) → Clears 14 2 crc ρ → ⊥
    none None c = omega (arith, c.many)
    none (One j) c = omega (arith, c.many)
    none (Two j k) c =
        let (i, l, s) = w.there j k c.proper (ap (λ (x : ℕ). x / 2 ^ 20) c.fits) in gone i (record { inside = l; own = s ∙ c.fits })

-- a remainder of none of the sixteen parts has more than 24 bits
pub no_part : (crc : ℕ) → 16 ≤ crc / 2 ^ 20 → Nothing ≡ clearing 14 2 crc
no_part crc h = sym (gone_high 14 crc (omega arith) 2)
