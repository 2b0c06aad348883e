-- A move is exact: what it gives is the number one more or one less, with nothing rounded.
-- Assumes nothing.
use mathlib.Core.Path.{◌≡◌, refl, sym, ap, ◌∙◌, subst}
use mathlib.Core.Logic.{◌⊎◌, inl, inr}
use mathlib.Core.Bool.{Bool, true, false, not, ◌&&◌, cond}
use Prim.Native.Nat.{ℕ, suc, ◌-◌, ◌*◌, ◌^◌, ◌<◌, ◌≤◌}
use native.Mathlib.Nat.{mul-one, one-mul, zero-mul, le_of_lt, eq-or-lt_of_le, eq-zero-or-pos}
use native.Mathlib.Omega.{arith}
use lib.Dec.{T, ltb, ltb→lt, nltb→le}
use lib.Pow.{pow_mono}
use lib.IntN.{ℤ, pos, negsuc}
use lib.Ieee.{Float, fin, binary32, up, down, fits, add, sub, sum, round}
use lib.Ieee.Fits.{down_pos}
use lib.Ieee.Exact.{HasValue}
use borrow.Author.Tests.{lt-ltb, le-ltb}
use Rattle.floats.proofs.Exact.{pow_back, fits_parts, round_unit}
use Rattle.timing.specs.Subsample.{one}

-- from 1/2 to 5/2 the distance from one is such a number
near : (m : ℕ) (e : ℤ) → 0 < m → m < 2 ^ 24 → down e ≤ m * up e * 2 → m * up e * 2 ≤ 5 * down e → (m * up e - down e < 2 ^ 24) × (down e - m * up e < 2 ^ 24)
near m (pos j) M L lo hi = (omega arith, omega arith)
near m (negsuc j) M L lo hi =
    let o : m * 1 ≡ m = mul-one m in
    let d : 2 ^ suc j < 2 ^ 25 = omega arith in
    let k : suc j < 25 = pow_back (suc j) 25 d in
    let b : 2 ^ suc j ≤ 2 ^ 24 = pow_mono {i = suc j} {j = 24} (omega arith) in
    (omega arith, omega arith)

-- ---- one added to -m * 2 ^ e, and taken from m * 2 ^ e, exactly
opened_up : (m : ℕ) (e : ℤ) → add binary32 (fin true m e) one ≡ sum binary32 true (m * up e * 1) false (1 * down e) (down e * 1)
unfolding add
opened_up m e = refl

opened_down : (m : ℕ) (e : ℤ) → sub binary32 (fin false m e) one ≡ sum binary32 false (m * up e * 1) true (1 * down e) (down e * 1)
unfolding sub
opened_down m e = refl

plain : (s t : Bool) (a c : ℕ) → sum binary32 s (a * 1) t (1 * c) (c * 1) ≡ sum binary32 s a t c c
plain s t a c = ap (λ (k : ℕ). sum binary32 s k t (1 * c) (c * 1)) (mul-one a) ∙ ap (λ (k : ℕ). sum binary32 s a t k (c * 1)) (one-mul c) ∙ ap (λ (k : ℕ). sum binary32 s a t c k) (mul-one c)

-- -a / c + 1 and a / c - 1, by which is larger
module _ (a c : ℕ) where
  up_le : a ≤ c → sum binary32 true a false c c ≡ round binary32 false (c - a) c
  unfolding sum
  up_le h = elim (eq-or-lt_of_le h) [
    | inl e ↦
        ap (λ (b : Bool). cond b (round binary32 false (c - a) c) (round binary32 (true && ltb c a) (a - c) c)) (le-ltb a c (omega arith))
        ∙ ap (λ (b : Bool). round binary32 b (a - c) c) (le-ltb c a h)
        ∙ ap (λ (k : ℕ). round binary32 false k c) (omega arith)
    | inr l ↦ ap (λ (b : Bool). cond b (round binary32 false (c - a) c) (round binary32 (true && ltb c a) (a - c) c)) (lt-ltb a c l)
  ]

  up_gt : c < a → sum binary32 true a false c c ≡ round binary32 true (a - c) c
  unfolding sum
  up_gt h =
      ap (λ (b : Bool). cond b (round binary32 false (c - a) c) (round binary32 (true && ltb c a) (a - c) c)) (le-ltb a c (le_of_lt h))
      ∙ ap (λ (b : Bool). round binary32 b (a - c) c) (lt-ltb c a h)

  down_lt : a < c → sum binary32 false a true c c ≡ round binary32 true (c - a) c
  unfolding sum
  down_lt h = ap (λ (b : Bool). cond b (round binary32 true (c - a) c) (round binary32 false (a - c) c)) (lt-ltb a c h)

  down_ge : c ≤ a → sum binary32 false a true c c ≡ round binary32 false (a - c) c
  unfolding sum
  down_ge h = ap (λ (b : Bool). cond b (round binary32 true (c - a) c) (round binary32 false (a - c) c)) (le-ltb a c h)

three : (a b : ℕ) → (a ≤ b) ⊎ (b < a)
three a b = go (ltb b a) (ltb→lt b a) (nltb→le b a)
  where
    go : (t : Bool) → (T t → b < a) → (T (not t) → a ≤ b) → (a ≤ b) ⊎ (b < a)
    go true h k = inr (h tt)
    go false h k = inl (k tt)

-- Each turn is exact: what it gives is the number one more or one less, with nothing rounded. a / c is the size of x = fin s m e
pub record Known (s : Bool) (m : ℕ) (e : ℤ) : Type 0 where
  pub fit : T (fits binary32 (fin s m e))
  pub low : down e ≤ m * up e * 2
  pub high : m * up e * 2 ≤ 5 * down e

module _ (s : Bool) (m : ℕ) (e : ℤ) (k : Known s m e) where
  some : 0 < m
  some = elim (eq-zero-or-pos m) [ inl z ↦ absurd (none z k.low) | inr p ↦ p ]
    where
      none : m ≡ 0 → down e ≤ m * up e * 2 → ⊥
      none z h =
          let q = down_pos e in
          let r : m * up e ≡ 0 = ap (λ (n : ℕ). n * up e) z ∙ zero-mul (up e) in
          omega arith

  near_one : (m * up e - down e < 2 ^ 24) × (down e - m * up e < 2 ^ 24)
  near_one = near m e some (fits_parts s m e some k.fit).0 k.low k.high

  unit_more : (t : Bool) → HasValue (round binary32 t (m * up e - down e) (down e)) t (m * up e - down e) (down e)
  unit_more t = round_unit t (m * up e - down e) e near_one.0 (fits_parts s m e some k.fit).1

  unit_less : (t : Bool) → HasValue (round binary32 t (down e - m * up e) (down e)) t (down e - m * up e) (down e)
  unit_less t = round_unit t (down e - m * up e) e near_one.1 (fits_parts s m e some k.fit).1

abbrev pub Up : Float → ℕ → ℕ → Type 0
Up y a c = ((a ≤ c) × HasValue y false (c - a) c) ⊎ ((c < a) × HasValue y true (a - c) c)

abbrev pub Down : Float → ℕ → ℕ → Type 0
Down y a c = ((a < c) × HasValue y true (c - a) c) ⊎ ((c ≤ a) × HasValue y false (a - c) c)

pub up_exact : (m : ℕ) (e : ℤ) → Known true m e → Up (add binary32 (fin true m e) one) (m * up e) (down e)
up_exact m e k = elim (three (m * up e) (down e)) [
  | inl h ↦ inl (h, subst (λ (y : Float). HasValue y false (down e - m * up e) (down e)) (sym (opened_up m e ∙ plain true false (m * up e) (down e) ∙ up_le (m * up e) (down e) h)) (unit_less true m e k false))
  | inr h ↦ inr (h, subst (λ (y : Float). HasValue y true (m * up e - down e) (down e)) (sym (opened_up m e ∙ plain true false (m * up e) (down e) ∙ up_gt (m * up e) (down e) h)) (unit_more true m e k true))
]

pub down_exact : (m : ℕ) (e : ℤ) → Known false m e → Down (sub binary32 (fin false m e) one) (m * up e) (down e)
down_exact m e k = elim (three (down e) (m * up e)) [
  | inl h ↦ inr (h, subst (λ (y : Float). HasValue y false (m * up e - down e) (down e)) (sym (opened_down m e ∙ plain false true (m * up e) (down e) ∙ down_ge (m * up e) (down e) h)) (unit_more false m e k false))
  | inr h ↦ inl (h, subst (λ (y : Float). HasValue y true (down e - m * up e) (down e)) (sym (opened_down m e ∙ plain false true (m * up e) (down e) ∙ down_lt (m * up e) (down e) h)) (unit_less false m e k true))
]
