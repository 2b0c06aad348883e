-- What the tests say of a fraction, and the moves as the code counts them.
-- Assumes nothing.
use mathlib.Core.Path.{◌≡◌, refl, sym, ◌∙◌, subst}
use mathlib.Core.Logic.{inl, inr}
use mathlib.Core.Bool.{Bool, true, false, not, ◌&&◌, false≢true}
use Prim.Native.Nat.{ℕ, suc, ◌+◌, ◌-◌, ◌<◌, ◌≤◌}
use native.Mathlib.Omega.{arith}
use lib.Dec.{T, ltb, ltb→lt, nltb→le}
use lib.IntN.{ℤ, pos, negsuc, ◌+ℤ◌, pos-ne-negsuc}
use lib.Ieee.{Float, nan, binary32, fits, le, is_nan}
use Rattle.floats.proofs.Nan.{nan_is, le_number_r}
use Rattle.floats.proofs.Integers.{sub_ge, sub_lt}
use Rattle.timing.specs.declared.Moves.TheVariants.{Back, On}
use Rattle.timing.specs.declared.Timing.{Timing}
use Rattle.timing.specs.Subsample.{halves, after_moves, gained, moves_of, timing_of}
use Rattle.timing.specs.Inner.{in_range}
use Rattle.timing.proofs.Turning.{InRange}

-- ---- the range

first_of : (a b : Bool) → a && b ≡ true → a ≡ true
first_of true b e = refl
first_of false b e = e

second_of_law : (a b : Bool) → a && b ≡ true → b ≡ true
second_of_law true b e = e
second_of_law false b e = absurd (false≢true e)

number_range : (f : Float) → is_nan f ≡ false → in_range f ≡ (le (halves true 5) f && le f (halves false 3))
unfolding in_range
number_range f e = rw e

nan_range : (f : Float) → is_nan f ≡ true → in_range f ≡ true
unfolding in_range
nan_range f e = rw e

pub range_gives : (f : Float) → T (fits binary32 f) → in_range f ≡ true → InRange f
range_gives f t e = go (is_nan f) refl
  where
    go : (b : Bool) → is_nan f ≡ b → InRange f
    go true h = inl (nan_is f h)
    go false h =
        let g = sym (number_range f h) ∙ e in
        inr (record { fit = t; lo = first_of (le (halves true 5) f) (le f (halves false 3)) g; hi = second_of_law (le (halves true 5) f) (le f (halves false 3)) g })

pub range_is : (f : Float) → InRange f → in_range f ≡ true
range_is f (inl e) = subst (λ (x : Float). in_range x ≡ true) (sym e) (nan_range nan (unfold is_nan in refl))
range_is f (inr s) = rw (number_range f (le_number_r (halves true 5) f s.lo), s.lo, s.hi)

-- ---- an index that started at 4

same_pos : (m n : ℕ) → pos m ≡ pos n → m ≡ n
same_pos m n e = cc

went_back : (i : ℕ) (z : ℤ) → i < 4 → pos i ≡ pos 4 +ℤ z → Back (4 - i) ≡ moves_of z
went_back i (pos n) h e = let g = same_pos i (4 + n) e in absurd (omega arith)
went_back i (negsuc n) h e = go (ltb 4 (suc n)) (ltb→lt 4 (suc n)) (nltb→le 4 (suc n))
  where
    go : (b : Bool) → (T b → 4 < suc n) → (T (not b) → suc n ≤ 4) → Back (4 - i) ≡ Back (suc n)
    go true f g = absurd (pos-ne-negsuc i (suc n - suc 4) (e ∙ sub_lt 4 (suc n) (f tt)))
    go false f g =
        let l = g tt in
        let k = same_pos i (4 - suc n) (e ∙ sub_ge 4 (suc n) l) in
        let j : 4 - i ≡ suc n = omega arith in
        rw j

went_on : (i : ℕ) (z : ℤ) → 4 ≤ i → pos i ≡ pos 4 +ℤ z → On (i - 4) ≡ moves_of z
went_on i (pos n) h e =
    let g = same_pos i (4 + n) e in
    let j : i - 4 ≡ n = omega arith in
    rw j
went_on i (negsuc n) h e = go (ltb 4 (suc n)) (ltb→lt 4 (suc n)) (nltb→le 4 (suc n))
  where
    go : (b : Bool) → (T b → 4 < suc n) → (T (not b) → suc n ≤ 4) → On (i - 4) ≡ Back (suc n)
    go true f g = absurd (pos-ne-negsuc i (suc n - suc 4) (e ∙ sub_lt 4 (suc n) (f tt)))
    go false f g =
        let l = g tt in
        let k = same_pos i (4 - suc n) (e ∙ sub_ge 4 (suc n) l) in
        absurd (omega arith)

module _ (f : Float) {i : ℕ} {g : Float} (e : g ≡ after_moves f) (h : pos i ≡ pos 4 +ℤ gained f) where
  pub timing_back : i < 4 → ◌≡◌ {A = Timing} (record { moves = Back (4 - i); fraction = g }) (timing_of f)
  unfolding timing_of
  timing_back l = rw (went_back i (gained f) l h, e)

  pub timing_on : 4 ≤ i → ◌≡◌ {A = Timing} (record { moves = On (i - 4); fraction = g }) (timing_of f)
  unfolding timing_of
  timing_on l = rw (went_on i (gained f) l h, e)
