-- Laws of the bit distance.
--     byte_le           two bytes differ in at most eight bits
--     byte_more         one more byte of each is compared
--     differing_le      at most all positions differ
--     distance_done     the answer
-- Assumes nothing.
use mathlib.Core.Path.{◌≡◌, refl, sym, ◌∙◌}
use mathlib.Core.List.{List}
use mathlib.Core.Bool.{Bool, true, false, cond}
use Prim.Native.Nat.{ℕ, zero, suc, ◌+◌, ◌*◌, ◌/◌, ◌%◌, ◌^◌, ◌<◌, ◌≤◌}
use native.Mathlib.Nat.{add-zero, add-suc}
use native.Mathlib.Omega.{arith}
use borrow.Author.Tests.{eq-eqb}
use lib.Bits.{bit_xor, differ, xor_step, xor_lt}
use lib.Count.{ones, ones_step, ones-le}
use lib.Dec.{eqb}
use lib.ListN.{length}
use Rattle.lists.specs.Bits.{bit_at, value}
use Rattle.lists.specs.Told.{done}
use Rattle.lists.proofs.Bits.{bit_at_lt, value_lt}
use Rattle.streams.specs.Streams.{message_at}
use Rattle.streams.specs.Distances.{differing, pair_number, distance_at}
use Rattle.streams.proofs.Reading.{message_value, stream_done}

-- 1 where two bits differ
abbrev unlike : ℕ → ℕ → ℕ
unlike x y = cond (eqb x y) 0 1

unlike_le : (t : Bool) → cond t 0 1 ≤ 1
unlike_le true = omega arith
unlike_le false = omega arith

differ_is : (x y : ℕ) → x < 2 → y < 2 → differ x y ≡ unlike x y
differ_is zero zero p q = refl
differ_is zero (suc zero) p q = refl
differ_is (suc zero) zero p q = refl
differ_is (suc zero) (suc zero) p q = refl
differ_is zero (suc (suc y)) p q = absurd (omega arith)
differ_is (suc zero) (suc (suc y)) p q = absurd (omega arith)
differ_is (suc (suc x)) y p q = absurd (omega arith)

module _ (x y : List ℕ) where
  -- over n positions from j on
  span : ℕ → ℕ → ℕ
  span j zero = 0
  span j (suc n) = span j n + unlike (bit_at x (j + n)) (bit_at y (j + n))

  differing_span : (j n : ℕ) → differing x y (j + n) ≡ differing x y j + span j n
  unfolding differing span
  differing_span j zero = rw (add-zero j) (omega arith)
  differing_span j (suc n) = rw (add-suc j n, differing_span j n) (omega arith)

  pub differing_le : (n : ℕ) → differing x y n ≤ n
  unfolding differing
  differing_le zero = omega arith
  differing_le (suc n) = omega (arith, differing_le n, unlike_le (eqb (bit_at x n) (bit_at y n)))

  -- the ones of an xor of two runs of bits
  ones_span : (j n : ℕ) → ones (bit_xor (value (bit_at x) j n) (value (bit_at y) j n)) ≡ span j n
  unfolding value ones span
  ones_span j zero = refl
  ones_span j (suc n) =
      let v = value (bit_at x) j n in
      let w = value (bit_at y) j n in
      let p = bit_at x (j + n) in
      let q = bit_at y (j + n) in
      let lp : p < 2 = bit_at_lt x (j + n) refl in
      let lq : q < 2 = bit_at_lt y (j + n) refl in
      let a : (v * 2 + p) / 2 ≡ v = omega arith in
      let b : (w * 2 + q) / 2 ≡ w = omega arith in
      let a' : (v * 2 + p) % 2 ≡ p = omega arith in
      let b' : (w * 2 + q) % 2 ≡ q = omega arith in
      let s : bit_xor (v * 2 + p) (w * 2 + q) ≡ bit_xor v w * 2 + unlike p q =
      rw (xor_step (v * 2 + p) (w * 2 + q), a, b, a', b', differ_is p q lp lq) in
      let u : unlike p q ≤ 1 = unlike_le (eqb p q) in
      let h : (bit_xor v w * 2 + unlike p q) / 2 ≡ bit_xor v w = omega arith in
      let m : (bit_xor v w * 2 + unlike p q) % 2 ≡ unlike p q = omega arith in
      rw (s, ones_step (bit_xor v w * 2 + unlike p q), h, m, ones_span j n) (omega arith)

-- two bytes differ in at most eight bits
pub byte_le : (a b : List ℕ) (i j : ℕ) {x y : ℕ} → x ≡ value (bit_at a) i 8 → y ≡ value (bit_at b) j 8 → ones (bit_xor x y) ≤ 8
byte_le a b i j {x} {y} ex ey =
    let lx : x < 2 ^ 8 = rw ex (value_lt (bit_at a) (λ k. bit_at_lt a k refl) i 8) in
    let ly : y < 2 ^ 8 = rw ey (value_lt (bit_at b) (λ k. bit_at_lt b k refl) j 8) in
    ones-le 8 (bit_xor x y) (xor_lt 8 x y lx ly)

pub byte_more : (a b : List ℕ) (n o k : ℕ) {x y d : ℕ} → k < n → x ≡ value (bit_at a) (o + 8 * k) 8 → y ≡ value (bit_at b) (o + 8 * k) 8
    → d ≡ differing (message_at a n o) (message_at b n o) (8 * k)
    → d + ones (bit_xor x y) ≡ differing (message_at a n o) (message_at b n o) (8 * (k + 1))
byte_more a b n o k h ex ey ed =
    let m : 8 * (k + 1) ≡ 8 * k + 8 = omega arith in
    let ax = ex ∙ sym (message_value a n o (8 * k) 8 (omega arith)) in
    let ay = ey ∙ sym (message_value b n o (8 * k) 8 (omega arith)) in
    rw (ax, ay, ed, m, differing_span (message_at a n o) (message_at b n o) (8 * k) 8, ones_span (message_at a n o) (message_at b n o) (8 * k) 8)

-- ---- the answer

module _ (a b : List ℕ) (offset : ℕ) where
  pub distance_done : length a ≡ 18 → length b ≡ 18 → offset ≤ 32
      → distance_at a b offset ≡ done (differing (message_at a 14 offset) (message_at b 14 offset) 112)
  unfolding distance_at pair_number
  distance_done l m o = rw (eq-eqb _ _ l, stream_done 14 b offset m o)
