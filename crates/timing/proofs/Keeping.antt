-- What each turn of the loop keeps: the range, where the fraction comes to rest, and the whole of the moves.
-- Assumes nothing.
use mathlib.Core.Path.{◌≡◌, refl, sym, ap, ◌∙◌}
use mathlib.Core.Logic.{inl, inr}
use mathlib.Core.Bool.{Bool, true, false, cond, false≢true}
use Prim.Native.Nat.{ℕ, suc, ◌+◌, ◌-◌, ◌<◌, ◌≤◌}
use native.Mathlib.Omega.{arith}
use lib.IntN.{ℤ, pos, negsuc, ◌+ℤ◌, +ℤ_assoc, +ℤ_idr}
use lib.Ieee.{Float, binary32, add, sub, lt, le}
use borrow.Author.Tests.{le-ltb}
use Rattle.timing.specs.Subsample.{one, halves, move, turn, after_moves, gained}
use Rattle.timing.proofs.Turning.{Rests, InRange, Span, todo, todo_le, todo_up, todo_down, span_up, span_down, rests_nan, move_up, move_down, turn_up, turn_down, rest_move, rest_rest, moved_move, moved_rest}

pub record Kept (index : ℕ) (fraction : Float) (i : ℕ) (f : Float) : Type 0 where
  pub range : InRange f
  pub same : after_moves f ≡ after_moves fraction
  pub whole : pos i +ℤ gained f ≡ pos index +ℤ gained fraction
  pub low : todo f ≤ i
  pub high : i + todo f ≤ index + 4

pub begins : (index : ℕ) (fraction : Float) → 4 ≤ index → InRange fraction → Kept index fraction index fraction
begins index fraction h r =
    let t = todo_le fraction in
    record { range = r; same = refl; whole = refl; low = omega arith; high = omega arith }

pub spans_up : (f : Float) → InRange f → lt f (halves true 1) ≡ true → Span f
spans_up f (inl e) h = absurd (false≢true (sym (rests_nan f e).0 ∙ h))
spans_up f (inr s) h = s

pub spans_down : (f : Float) → InRange f → le (halves false 1) f ≡ true → Span f
spans_down f (inl e) h = absurd (false≢true (sym (rests_nan f e).1 ∙ h))
spans_down f (inr s) h = s

less_one : (i : ℕ) → 0 < i → pos (i - 1) ≡ pos i +ℤ negsuc 0
less_one i h = sym (ap (λ (t : Bool). cond t (negsuc (1 - suc i)) (pos (i - 1))) (le-ltb i 1 h))

-- a turn's share goes from the moves into the index
share : (i j : ℕ) (f g : Float) → InRange f → g ≡ move f → pos j ≡ pos i +ℤ turn f → pos j +ℤ gained g ≡ pos i +ℤ gained f
share i j f g r e h = ap (λ (z : ℤ). z +ℤ gained g) h ∙ ap (λ (x : Float). pos i +ℤ turn f +ℤ gained x) e ∙ +ℤ_assoc (pos i) (turn f) (gained (move f)) ∙ ap (λ (z : ℤ). pos i +ℤ z) (moved_move f r)

rest_turn : (f g : Float) → InRange f → g ≡ move f → after_moves g ≡ after_moves f
rest_turn f g r e = ap after_moves e ∙ rest_move f r

pub some_left : (f : Float) (i : ℕ) → InRange f → todo f ≤ i → lt f (halves true 1) ≡ true → 1 ≤ i
some_left f i r l h =
    let t = todo_up f (spans_up f r h) h in
    omega arith

pub up_keeps : (index : ℕ) (fraction : Float) (i : ℕ) (f : Float) → Kept index fraction i f → lt f (halves true 1) ≡ true → Kept index fraction (i - 1) (add binary32 f one)
up_keeps index fraction i f k h =
    let r = k.range in
    let s = spans_up f r h in
    let t = todo_up f s h in
    let l = k.low in
    let u = k.high in
    let e = sym (move_up f h) in
    record {
      range = inr (span_up f s h);
      same = rest_turn f (add binary32 f one) r e ∙ k.same;
      whole = share i (i - 1) f (add binary32 f one) r e (less_one i (omega arith) ∙ ap (λ (z : ℤ). pos i +ℤ z) (sym (turn_up f h))) ∙ k.whole;
      low = omega arith;
      high = omega arith;
    }

pub down_keeps : (index : ℕ) (fraction : Float) (i : ℕ) (f : Float) → Kept index fraction i f → lt f (halves true 1) ≡ false → le (halves false 1) f ≡ true → Kept index fraction (i + 1) (sub binary32 f one)
down_keeps index fraction i f k n h =
    let r = k.range in
    let s = spans_down f r h in
    let t = todo_down f s h in
    let l = k.low in
    let u = k.high in
    let e = sym (move_down f n h) in
    record {
      range = inr (span_down f s h);
      same = rest_turn f (sub binary32 f one) r e ∙ k.same;
      whole = share i (i + 1) f (sub binary32 f one) r e (ap (λ (z : ℤ). pos i +ℤ z) (sym (turn_down f n h))) ∙ k.whole;
      low = omega arith;
      high = omega arith;
    }

pub ends : (index : ℕ) (fraction : Float) (i : ℕ) (f : Float) → Kept index fraction i f → Rests f → (f ≡ after_moves fraction) × (pos i ≡ pos index +ℤ gained fraction)
ends index fraction i f k r = (sym (rest_rest f r) ∙ k.same, sym (+ℤ_idr (pos i)) ∙ ap (λ (z : ℤ). pos i +ℤ z) (sym (moved_rest f r)) ∙ k.whole)
