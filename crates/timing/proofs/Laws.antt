-- What timing promises, for every parabola value, NaN and the infinities included.
--     reaches                 each fraction that it gives is in range
--     ends_in_range           a fraction in range that is no NaN ends in [-0.5, 0.5)
--     nan_stays               a NaN stays, and nothing moves
--     nothing_left            no further move is due
--     at_most_two, few_moves  the index moves by at most two
-- Assumes nothing.
use mathlib.Core.Path.{◌≡◌, refl, sym, ap, ◌∙◌, subst}
use mathlib.Core.Logic.{inl, inr}
use mathlib.Core.Bool.{Bool, true, false, not, cond, false≢true}
use Prim.Native.Nat.{ℕ, ◌≤◌}
use lib.Dec.{T, lit≤}
use lib.IntN.{ℤ, pos, negsuc, nat_abs, ◌+ℤ◌}
use lib.Ieee.{Float, nan, binary32, fits, lt, le, is_nan}
use Rattle.floats.proofs.Compare.{le_not_lt}
use Rattle.floats.proofs.Nan.{le_number_r}
use Rattle.timing.specs.declared.Offset.{Offset}
use Rattle.timing.specs.Subsample.{halves, fraction_of, move, turn, after_moves, gained, moves_of, timing_of}
use Rattle.timing.specs.Inner.{in_range, moves_count}
use Rattle.timing.proofs.Turning.{Rests, Span, InRange, rests_nan, span_up, span_down, move_up, move_down, move_rest, rests_after_two, rest_rest, moved_rest, which}
use Rattle.timing.proofs.Reach.{fraction_reaches}
use Rattle.timing.proofs.Reading.{range_gives, range_is}

half_number : (s : Bool) (b : ℕ) → T (not (is_nan (halves s b)))
unfolding is_nan
half_number s b = tt

pub reaches : (parabola : Float) (offset : Offset) → in_range (fraction_of parabola offset) ≡ true
reaches p o = range_is (fraction_of p o) (fraction_reaches p o)

pub nothing_left : (f : Float) → T (fits binary32 f) → in_range f ≡ true → move (after_moves f) ≡ after_moves f
unfolding after_moves
nothing_left f t e = move_rest (move (move f)) (rests_after_two f (range_gives f t e))

pub nan_stays : (after_moves nan ≡ nan) × (gained nan ≡ pos 0)
nan_stays = (rest_rest nan (rests_nan nan refl), moved_rest nan (rests_nan nan refl))

-- ---- the end

span_move : (f : Float) → Span f → Span (move f)
span_move f s = elim (which f) [
  | inl h ↦ subst Span (sym (move_up f h)) (span_up f s h)
  | inr w ↦ elim w [
    | inl h ↦ subst Span (sym (move_down f h.0 h.1)) (span_down f s h.1)
    | inr r ↦ subst Span (sym (move_rest f r)) s
  ]
]

rests_between : (f : Float) → Span f → Rests f → (le (halves true 1) f ≡ true) × (lt f (halves false 1) ≡ true)
rests_between f s r =
    let n : T (not (is_nan f)) = rw (le_number_r (halves true 5) f s.lo) tt in (
      le_not_lt (halves true 1) f (half_number true 1) n ∙ ap not r.0,
      denied (lt f (halves false 1)) (sym (le_not_lt (halves false 1) f (half_number false 1) n) ∙ r.1),
    )
  where
    denied : (b : Bool) → not b ≡ false → b ≡ true
    denied true e = refl
    denied false e = sym e

pub ends_in_range : (f : Float) → T (fits binary32 f) → in_range f ≡ true → is_nan f ≡ false
    → (le (halves true 1) (after_moves f) ≡ true) × (lt (after_moves f) (halves false 1) ≡ true)
unfolding after_moves
ends_in_range f t e n = go (range_gives f t e)
  where
    is_number : (x : Float) → x ≡ nan → is_nan x ≡ false → ⊥
    is_number x h g = false≢true (sym g ∙ ap is_nan h ∙ unfold is_nan in refl)

    go : InRange f → (le (halves true 1) (move (move f)) ≡ true) × (lt (move (move f)) (halves false 1) ≡ true)
    go (inl h) = absurd (is_number f h n)
    go (inr s) = rests_between (move (move f)) (span_move (move f) (span_move f s)) (rests_after_two f (inr s))

-- ---- the count

pub at_most_two : (f : Float) → nat_abs (gained f) ≤ 2
unfolding gained turn
at_most_two f = go (lt f (halves true 1)) (le (halves false 1) f) (lt (move f) (halves true 1)) (le (halves false 1) (move f))
  where
    go : (a b c d : Bool) → nat_abs (cond a (negsuc 0) (cond b (pos 1) (pos 0)) +ℤ cond c (negsuc 0) (cond d (pos 1) (pos 0))) ≤ 2
    go true b true d = lit≤ tt
    go true b false true = lit≤ tt
    go true b false false = lit≤ tt
    go false true true d = lit≤ tt
    go false true false true = lit≤ tt
    go false true false false = lit≤ tt
    go false false true d = lit≤ tt
    go false false false true = lit≤ tt
    go false false false false = lit≤ tt

pub few_moves : (f : Float) → moves_count (timing_of f).moves ≤ 2
unfolding timing_of
few_moves f = subst (λ (n : ℕ). n ≤ 2) (sym (count_is (gained f))) (at_most_two f)
  where
    count_is : (z : ℤ) → moves_count (moves_of z) ≡ nat_abs z
    count_is (pos n) = refl
    count_is (negsuc n) = refl
