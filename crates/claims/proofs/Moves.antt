-- How many samples move, by where the fraction lies: what two turns make of it, one after the other, is told by its halves at once.
-- Assumes nothing.
use mathlib.Core.Path.{◌≡◌, refl, sym, ◌∙◌, subst}
use mathlib.Core.Bool.{Bool, true, false, not, true≢false}
use mathlib.Core.Logic.{inl, inr}
use lib.Dec.{T}
use lib.IntN.{pos, negsuc, ◌+ℤ◌}
use lib.Ieee.{Float, binary32, add, sub, lt, le, is_nan}
use Rattle.floats.proofs.Nan.{le_number_r}
use Rattle.floats.proofs.Order.{lt_transitive, lt_asymmetric}
use Rattle.floats.proofs.Compare.{lt_le, le_not_lt}
use Rattle.timing.specs.Subsample.{one, halves, move, turn, gained}
use Rattle.timing.proofs.Turning.{Upped, Downed, InRange, which, rests_nan, goes_up, goes_down, move_up, move_down, move_rest, turn_up, turn_down, turn_rest}
use Rattle.claims.specs.Timing.{moves_for}

-- what is not below -1/2 is not below -3/2, and what is not from 1/2 on is not from 3/2 on
below_more : (f : Float) → lt f (halves true 1) ≡ false → lt f (halves true 3) ≡ false
below_more f h = go (lt f (halves true 3)) refl
  where
    less : T (lt (halves true 3) (halves true 1))
    less = unfold lt in tt

    go : (b : Bool) → lt f (halves true 3) ≡ b → b ≡ false
    go false e = refl
    go true e = absurd (subst T h (lt_transitive f (halves true 3) (halves true 1) (subst T (sym e) tt) less))

above_more : (f : Float) → le (halves false 1) f ≡ false → le (halves false 3) f ≡ false
above_more f h = go (le (halves false 3) f) refl
  where
    less : T (lt (halves false 1) (halves false 3))
    less = unfold lt in tt

    number : T (not (is_nan (halves false 1)))
    number = unfold is_nan in tt

    go : (b : Bool) → le (halves false 3) f ≡ b → b ≡ false
    go false e = refl
    go true e =
        let l = lt_le (halves false 1) (halves false 3) f less (subst T (sym e) tt) in
        let n : T (not (is_nan f)) = rw (le_number_r (halves false 3) f e) tt in
        absurd (false_to_lt (lt f (halves false 1)) refl (sym (le_not_lt (halves false 1) f number n) ∙ h) l)
      where
        false_to_lt : (b : Bool) → lt f (halves false 1) ≡ b → not b ≡ false → T (lt (halves false 1) f) → ⊥
        false_to_lt true q z l = lt_asymmetric (halves false 1) f l (subst T (sym q) tt)
        false_to_lt false q z l = true≢false z

pub moves_are : (f : Float) → InRange f → gained f ≡ moves_for f
unfolding gained
moves_are f r = elim (which f) [
  | inl h ↦ back h r
  | inr w ↦ elim w [
    | inl h ↦ on h.0 h.1 r
    | inr h ↦
        let a = below_more f h.0 in
        let b = above_more f h.1 in
        rw (move_rest f h, turn_rest f h, a, h.0, b, h.1)
  ]
]
  where
    back : lt f (halves true 1) ≡ true → InRange f → turn f +ℤ turn (move f) ≡ moves_for f
    back h (inl e) = absurd (true≢false (sym h ∙ (rests_nan f e).0))
    back h (inr s) = rw (turn_up f h, move_up f h) (go (lt f (halves true 3)) refl)
      where
        u : Upped f (add binary32 f one)
        u = goes_up f s.fit s.lo h

        go : (b : Bool) → lt f (halves true 3) ≡ b → negsuc 0 +ℤ turn (add binary32 f one) ≡ moves_for f
        go true e = rw (turn_up (add binary32 f one) (u.again ∙ e), e)
        go false e = rw (turn_rest (add binary32 f one) (u.again ∙ e, u.back), e, h)

    on : lt f (halves true 1) ≡ false → le (halves false 1) f ≡ true → InRange f → turn f +ℤ turn (move f) ≡ moves_for f
    on n h (inl e) = absurd (true≢false (sym h ∙ (rests_nan f e).1))
    on n h (inr s) = rw (turn_down f n h, move_down f n h) (go (le (halves false 3) f) refl)
      where
        d : Downed f (sub binary32 f one)
        d = goes_down f s.fit s.hi h

        go : (b : Bool) → le (halves false 3) f ≡ b → pos 1 +ℤ turn (sub binary32 f one) ≡ moves_for f
        go true e = rw (turn_down (sub binary32 f one) d.back (d.again ∙ e), below_more f n, n, e)
        go false e = rw (turn_rest (sub binary32 f one) (d.back, d.again ∙ e), below_more f n, n, e, h)
