-- Positions that are named, and checked by dividing.
--     raised, pattern_raised     the remainder of one position: its byte divided, and zero bytes behind it; all 112 are computed
--     pattern_outside            that of a position which is not there
--     cleared_two                in the code's own words
--     named_right                positions that clear a remainder are what is found
--     short_named                of 7 bytes
-- Assumes nothing.
use mathlib.Core.Path.{◌≡◌, refl, sym, ap, ◌∙◌}
use mathlib.Core.Bool.{Bool, true, false, true≢false, ◌&&◌, cond}
use Prim.Native.Nat.{ℕ, zero, suc, ◌+◌, ◌-◌, ◌*◌, ◌/◌, ◌%◌, ◌^◌, ◌<◌, ◌≤◌, min}
use native.Mathlib.Numerals.{add-one}
use native.Mathlib.Omega.{arith}
use borrow.Author.Tests.{eqb-true, ltb-true, lt-ltb, le-ltb}
use lib.Dec.{eqb, ltb, eqb→eq}
use lib.Bits.{bit_xor}
use Rattle.lists.proofs.Test.{below}
use Rattle.annex10.specs.declared.Repairs.{Repairs}
use Rattle.annex10.specs.declared.Repairs.TheVariants.{None, One, Two}
use Rattle.annex10.specs.declared.Found.{Found}
use Rattle.annex10.specs.declared.Found.TheVariants.{At, Nothing}
use Rattle.annex10.specs.Remainder.{remainder}
use Rattle.annex10.specs.Bytes.{bring_byte}
use Rattle.annex10.specs.Flip.{flip}
use Rattle.annex10.specs.Repair.{Proper, count, repaired, pattern}
use Rattle.annex10.specs.Any.{clearing_up_to}
use Rattle.annex10.specs.Codes.{code_of}
use Rattle.annex10.proofs.Repairing.{not_there, looked_up, pattern_two}
use Rattle.annex10.proofs.UpTo.{up_to_found, up_to_gone}
use Rattle.annex10.proofs.Unique.{apart_14}
use Rattle.repairs.specs.Codes.{code_up_to}
use Rattle.repairs.specs.Inner.{cleared_by, short_code}
use Rattle.repairs.proofs.Coding.{short_code_law}

-- ---- one position

-- n zero bytes more
unfoldable pub raised : ℕ → ℕ → ℕ
raised zero r = r
raised (suc n) r = bring_byte (raised n r) 0

pub raised_none : (r : ℕ) {x : ℕ} → x ≡ r → x ≡ raised 0 r
unfolding raised
raised_none r e = e

pub raised_more : (n r : ℕ) {x y : ℕ} → x ≡ raised n r → y ≡ bring_byte x 0 → y ≡ raised (n + 1) r
unfolding raised
raised_more n r e g = g ∙ ap (λ (z : ℕ). bring_byte z 0) e ∙ rw (add-one n)

-- a byte with the bit of position j, and zero bytes behind it
abbrev byte_of : ℕ → ℕ
byte_of j = raised (13 - j / 8) (bring_byte 0 (1 * 2 ^ (7 - j % 8) % 2 ^ 8))

test : ℕ → Bool
test j = eqb (cond (ltb j 112) (byte_of j) 0) (pattern 14 (One j))

holds : (j : ℕ) → j < 256 → cond (ltb j 112) (byte_of j) 0 ≡ pattern 14 (One j)
unfolding test raised bring_byte pattern repaired flip remainder
holds j h = eqb→eq _ _ (below 256 test tt j h)

pub pattern_raised : (j : ℕ) → j < 112 → raised (13 - j / 8) (bring_byte 0 (1 * 2 ^ (7 - j % 8) % 2 ^ 8)) ≡ pattern 14 (One j)
pattern_raised j h = sym (ap (λ (t : Bool). cond t (byte_of j) 0) (lt-ltb j 112 h)) ∙ holds j (omega arith)

pub pattern_outside : (j : ℕ) → 112 ≤ j → j < 256 → 0 ≡ pattern 14 (One j)
pattern_outside j h l = sym (ap (λ (t : Bool). cond t (byte_of j) 0) (le-ltb j 112 h)) ∙ holds j l

-- ---- what clears

pub cleared_two : (j k r : ℕ) {x y : ℕ} → j < k → k < 112 → x ≡ pattern 14 (One j) → y ≡ pattern 14 (One k) → eqb (bit_xor x y) r ≡ cleared_by (Two j k) r
unfolding cleared_by
cleared_two j k r h g e f = rw (lt-ltb j k h, lt-ltb k 112 g, e, f, pattern_two 14 j k)

and_left : (a b : Bool) → (a && b) ≡ true → a ≡ true
and_left true b e = refl
and_left false b e = e

and_right : (a b : Bool) → (a && b) ≡ true → b ≡ true
and_right true b e = e
and_right false b e = absurd (true≢false (sym e))

record Right (r : ℕ) (ρ : Repairs) : Type 0 where
  proper : Proper 14 ρ
  fits : pattern 14 ρ ≡ r

right : (ρ : Repairs) (r : ℕ) → cleared_by ρ r ≡ true → Right r ρ
unfolding cleared_by
right None r e = absurd (true≢false (sym e))
right (One j) r e =
    record { proper = ltb-true j 112 (and_left (ltb j 112) _ e); fits = eqb-true _ _ (and_right (ltb j 112) _ e) }
right (Two j k) r e =
    let f = and_right (ltb j k) _ e in
    record {
      proper = (ltb-true j k (and_left (ltb j k) _ e), ltb-true k 112 (and_left (ltb k 112) _ f));
      fits = eqb-true _ _ (and_right (ltb k 112) _ f);
    }

pub named_right : (ρ : Repairs) (level r : ℕ) {c : ℕ} → count ρ ≤ level → cleared_by ρ r ≡ true → c ≡ code_of (At ρ) → c ≡ code_up_to 14 level r
unfolding code_up_to
named_right ρ level r h e g = g ∙ ap code_of (sym (go (clearing_up_to 14 level r) refl))
  where
    w : Right r ρ
    w = right ρ r e

    go : (o : Found) → clearing_up_to 14 level r ≡ o → o ≡ At ρ
    go Nothing q = not_there (sym (up_to_gone 14 r level q (count ρ) h) ∙ looked_up 14 r apart_14 ρ w.proper w.fits)
    go (At σ) q =
        let c = (up_to_found 14 r level q).clears in
        ap At (apart_14.same σ ρ c.proper w.proper (c.fits ∙ sym w.fits))

pub short_named : (level r : ℕ) {n c d : ℕ} → n ≡ min level 1 → c ≡ code_up_to 14 n r → d ≡ short_code c → d ≡ code_up_to 7 (min level 1) r
short_named level r {n} {c} {d} e f g = g ∙ ap short_code f ∙ short_code_law n r (omega arith) ∙ ap (λ (m : ℕ). code_up_to 7 m r) e
