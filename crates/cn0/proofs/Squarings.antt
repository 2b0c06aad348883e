-- The squarings: r stays in [2 ^ 31, 2 ^ 32), and what a turn of the loop keeps.
-- Assumes nothing.
use mathlib.Core.Path.{◌≡◌, sym, ap, ◌∙◌}
use mathlib.Core.Bool.{Bool, cond}
use Prim.Native.Nat.{ℕ, zero, suc, ◌+◌, ◌-◌, ◌*◌, ◌/◌, ◌^◌, ◌≤◌, ◌<◌}
use native.Mathlib.Nat.{lt_irrefl, lt_of_le_of_lt, mul-le-mul, pow-suc, mul_comm}
use native.Mathlib.Numerals.{add-one}
use native.Mathlib.Omega.{arith}
use lib.Dec.{lit<}
use lib.Pow.{pow_mono}
use borrow.Author.Tests.{le-leb, lt-leb}
use Rattle.cn0.specs.Logarithm.{digit, next, digits}

pub square_low : (r : ℕ) → 2 ^ 31 ≤ r → 2 ^ 62 ≤ r * r
square_low r h = mul-le-mul h h

pub square_high : (r : ℕ) → r < 2 ^ 32 → r * r < 2 ^ 64
square_high r h = lt_of_le_of_lt (mul-le-mul (most r h) (most r h)) (lit< tt)
  where
    most : (r : ℕ) → r < 2 ^ 32 → r ≤ 0xffff_ffff
    most r h = omega arith

step : (k d r : ℕ) → 0 < k → digits k d r ≡ digits (k - 1) (2 * d + digit (r * r)) (next (r * r))
unfolding digits
step zero d r h = absurd (lt_irrefl 0 h)
step (suc k) d r h = ap (λ (j : ℕ). digits j (2 * d + digit (r * r)) (next (r * r))) (one_less k)
  where
    one_less : (k : ℕ) → k ≡ suc k - 1
    one_less k = omega arith

-- the step at i < 16, by the digit's two values
at : (i d r b : ℕ) → i < 16 → digits (16 - i) d r ≡ digits (16 - (i + 1)) (2 * d + digit (r * r)) (next (r * r))
at i d r b h = step (16 - i) d r (some i h) ∙ ap (λ (j : ℕ). digits j (2 * d + digit (r * r)) (next (r * r))) (less i)
  where
    some : (i : ℕ) → i < 16 → 0 < 16 - i
    some i h = omega arith

    less : (i : ℕ) → 16 - i - 1 ≡ 16 - (i + 1)
    less i = omega arith

pub step_one : (i d r : ℕ) → i < 16 → 2 ^ 63 ≤ r * r → digits (16 - (i + 1)) (2 * d + 1) (r * r / 2 ^ 32) ≡ digits (16 - i) d r
step_one i d r h t = sym (at i d r 1 h ∙ ap (λ (b : Bool). digits (16 - (i + 1)) (2 * d + cond b 1 0) (cond b (r * r / 2 ^ 32) (r * r / 2 ^ 31))) (le-leb (2 ^ 63) (r * r) t))

pub step_zero : (i d r : ℕ) → i < 16 → r * r < 2 ^ 63 → digits (16 - (i + 1)) (2 * d) (r * r / 2 ^ 31) ≡ digits (16 - i) d r
step_zero i d r h t =
    sym
    (at i d r 0 h
    ∙ ap (λ (b : Bool). digits (16 - (i + 1)) (2 * d + cond b 1 0) (cond b (r * r / 2 ^ 32) (r * r / 2 ^ 31))) (lt-leb (2 ^ 63) (r * r) t)
    ∙ ap (λ (e : ℕ). digits (16 - (i + 1)) e (r * r / 2 ^ 31)) (none d))
  where
    none : (d : ℕ) → 2 * d + 0 ≡ 2 * d
    none d = omega arith

pub double : (i : ℕ) → 2 ^ (i + 1) ≡ 2 * 2 ^ i
double i = ap (λ (j : ℕ). 2 ^ j) (add-one i) ∙ pow-suc 2 i ∙ mul_comm (2 ^ i) 2

pub under : (i : ℕ) → i ≤ 16 → 2 ^ i ≤ 65536
under i h = pow_mono h

pub done : (d r i : ℕ) → i ≤ 16 → 16 ≤ i → d ≡ digits (16 - i) d r
unfolding digits
done d r i h k = ap (λ (j : ℕ). digits j d r) (none i h k)
  where
    none : (i : ℕ) → i ≤ 16 → 16 ≤ i → 0 ≡ 16 - i
    none i h k = omega arith

-- what a turn keeps, as one statement over the numbers
abbrev pub Held : ℕ → ℕ → ℕ → ℕ → Type 0
Held sig r d i = (i ≤ 16) × (2 ^ 31 ≤ r) × (r < 2 ^ 32) × (d < 2 ^ i) × (digits (16 - i) d r ≡ digits 16 0 sig)

pub again_one : (sig r d i : ℕ) → i < 16 → Held sig r d i → 2 ^ 63 ≤ r * r → Held sig (r * r / 2 ^ 32) (2 * d + 1) (i + 1)
again_one sig r d i h v t =
    let a : r * r < 2 ^ 64 = square_high r v.2 in
    let b : 2 ^ (i + 1) ≡ 2 * 2 ^ i = double i in
    (omega arith, omega arith, omega arith, omega arith, step_one i d r h t ∙ v.4)

pub again_zero : (sig r d i : ℕ) → i < 16 → Held sig r d i → r * r < 2 ^ 63 → Held sig (r * r / 2 ^ 31) (2 * d) (i + 1)
again_zero sig r d i h v t =
    let a : 2 ^ 62 ≤ r * r = square_low r v.1 in
    let b : 2 ^ (i + 1) ≡ 2 * 2 ^ i = double i in
    (omega arith, omega arith, omega arith, omega arith, step_zero i d r h t ∙ v.4)
