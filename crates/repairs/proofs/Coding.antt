-- The codes of what clears a remainder, one number of positions after the other.
--     code_is_zero                    of 0
--     code_by                         from what clears
--     code_same                       that of an equal remainder
--     short_code_law, short_codes_law         of 7 bytes, from those of 14
-- Assumes nothing.
use mathlib.Core.Path.{◌≡◌, refl, sym, ap, ◌∙◌}
use mathlib.Core.List.{List}
use Prim.Native.Nat.{ℕ, ◌+◌, ◌*◌, ◌≤◌}
use native.Mathlib.Omega.{arith}
use native.Mathlib.Decide.{dec_lt}
use lib.ListN.{length, get_or}
use borrow.Author.Tests.{lt-ltb, le-ltb}
use Rattle.lists.proofs.Table.{length_tabulate, get_d_tabulate, tabulate_is}
use Rattle.annex10.specs.declared.Repairs.TheVariants.{None, One, Two}
use Rattle.annex10.specs.declared.Found.{Found}
use Rattle.annex10.specs.declared.Found.TheVariants.{At, Nothing}
use Rattle.annex10.specs.Repair.{Proper}
use Rattle.annex10.specs.Any.{clearing_up_to}
use Rattle.annex10.specs.Codes.{code_of}
use Rattle.annex10.proofs.Shorter.{fewer, up_to_fewer}
use Rattle.annex10.proofs.Unique.{apart_14}
use Rattle.annex10.proofs.UpTo.{up_to_found, up_to_zero}
use Rattle.repairs.specs.Codes.{code_up_to, codes_up_to}
use Rattle.repairs.specs.Inner.{short_code, short_codes}

pub code_is_zero : (level crc : ℕ) → crc ≡ 0 → 65535 ≡ code_up_to 14 level crc
unfolding code_up_to
code_is_zero level crc z = rw (z, up_to_zero 14 apart_14 level)

pub code_by : (level crc : ℕ) {c : ℕ} {f : Found} → f ≡ clearing_up_to 14 level crc → c ≡ code_of f → c ≡ code_up_to 14 level crc
unfolding code_up_to
code_by level crc e g = g ∙ ap code_of e

pub code_same : (level : ℕ) {c last crc : ℕ} → c ≡ code_up_to 14 level last → crc ≡ last → c ≡ code_up_to 14 level crc
code_same level e q = rw (q, e)

-- ---- 7 bytes

pub short_code_law : (level crc : ℕ) → level ≤ 1 → short_code (code_up_to 14 level crc) ≡ code_up_to 7 level crc
unfolding code_up_to short_code
short_code_law level crc h = go (clearing_up_to 14 level crc) refl ∙ ap code_of (sym (up_to_fewer 7 7 apart_14 crc level))
  where
    go : (o : Found) → clearing_up_to 14 level crc ≡ o → short_code (code_of o) ≡ code_of (fewer 7 o)
    go Nothing e = refl
    go (At None) e = refl
    go (At (One j)) e = one j (up_to_found 14 crc level e).clears.proper
      where
        one : (j : ℕ) → Proper 14 (One j) → short_code (code_of (At (One j))) ≡ code_of (fewer 7 (At (One j)))
        one j p =
            let s = lt-ltb (j * 256 + 255) 65535 (omega arith) in
            elim (dec_lt j 56) [
              | yes l ↦ rw (s, lt-ltb (j * 256 + 255) 14336 (omega arith), lt-ltb j 56 l)
              | no l ↦ rw (s, le-ltb (j * 256 + 255) 14336 (omega arith), le-ltb j 56 (omega arith)) (omega arith)
            ]
    go (At (Two i j)) e = absurd (omega (arith, (up_to_found 14 crc level e).few))

pub short_codes_law : (level : ℕ) (crcs codes xs : List ℕ) → level ≤ 1 → codes ≡ codes_up_to 14 level crcs → xs ≡ short_codes codes → xs ≡ codes_up_to 7 level crcs
unfolding codes_up_to short_codes
short_codes_law level crcs codes xs h e g =
    let n : length codes ≡ length crcs = ap length e ∙ length_tabulate (length crcs) (λ (i : ℕ). code_up_to 14 level (get_or crcs i 0)) in
    tabulate_is 0 (λ (i : ℕ). code_up_to 7 level (get_or crcs i 0)) (length crcs) xs (ap length g ∙ length_tabulate (length codes) _ ∙ n)
    (λ i l. ap (λ (ys : List ℕ). get_or ys i 0) g
    ∙ get_d_tabulate (length codes) (λ (k : ℕ). short_code (get_or codes k 0)) i 0 (omega (arith, n))
    ∙ ap short_code (ap (λ (ys : List ℕ). get_or ys i 0) e ∙ get_d_tabulate (length crcs) (λ (k : ℕ). code_up_to 14 level (get_or crcs k 0)) i 0 l)
    ∙ short_code_law level (get_or crcs i 0) h)
