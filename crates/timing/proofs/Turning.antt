-- A fraction from -5/2 to 3/2 comes to rest in [-1/2, 1/2) after at most two moves.
-- Assumes nothing.
use mathlib.Core.Path.{◌≡◌, refl, sym, ap, ◌∙◌, subst}
use mathlib.Core.Logic.{◌⊎◌, inl, inr}
use mathlib.Core.Bool.{Bool, true, false, not, cond, false≢true}
use Prim.Native.Nat.{ℕ, ◌+◌, ◌-◌, ◌*◌, ◌<◌, ◌≤◌}
use native.Mathlib.Omega.{arith}
use lib.Dec.{T, ltb, ltb→lt, nltb→le, lit≤}
use lib.IntN.{ℤ, pos, negsuc, ◌+ℤ◌, +ℤ_idr}
use lib.Ieee.{Float, nan, inf, fin, binary32, up, down, fits, add, sub, lt, le}
use lib.Ieee.Fits.{down_pos, add-fits, sub-fits}
use lib.Ieee.Exact.{HasValue}
use borrow.Author.Tests.{lt-ltb, le-ltb, ltb-true, ltb-false, not-true}
use Rattle.timing.proofs.Halves.{lt_half, half_le, le_half, own}
use Rattle.timing.proofs.Exactly.{Known, Up, Down, up_exact, down_exact}
use Rattle.timing.specs.Subsample.{one, halves, move, turn, after_moves, gained}

-- nothing is left to move
abbrev pub Rests : Float → Type 0
Rests f = (lt f (halves true 1) ≡ false) × (le (halves false 1) f ≡ false)

-- ---- what a turn leaves: x is the fraction before it and y after it
pub record Upped (x y : Float) : Type 0 where
  pub lo : le (halves true 5) y ≡ true
  pub hi : le y (halves false 3) ≡ true
  pub far : lt y (halves true 3) ≡ false
  pub again : lt y (halves true 1) ≡ lt x (halves true 3)
  pub back : le (halves false 1) y ≡ false
  pub far_back : le (halves false 3) y ≡ false

pub record Downed (x y : Float) : Type 0 where
  pub lo : le (halves true 5) y ≡ true
  pub hi : le y (halves false 3) ≡ true
  pub far : lt y (halves true 3) ≡ false
  pub back : lt y (halves true 1) ≡ false
  pub again : le (halves false 1) y ≡ le (halves false 3) x
  pub far_again : le (halves false 3) y ≡ false

-- a pair of orders that hold together
both : (a b c d : ℕ) → (a < b) ⊎ (b ≤ a) → (a < b → c < d) → (b ≤ a → d ≤ c) → ltb a b ≡ ltb c d
both a b c d (inl h) f g = lt-ltb a b h ∙ sym (lt-ltb c d (f h))
both a b c d (inr h) f g = le-ltb a b h ∙ sym (le-ltb c d (g h))

cases : (a b : ℕ) → (a < b) ⊎ (b ≤ a)
cases a b = go (ltb a b) (ltb→lt a b) (nltb→le a b)
  where
    go : (t : Bool) → (T t → a < b) → (T (not t) → b ≤ a) → (a < b) ⊎ (b ≤ a)
    go true h k = inl (h tt)
    go false h k = inr (k tt)

no : (a b : ℕ) → a < b → not (ltb a b) ≡ false
no a b h = ap not (lt-ltb a b h)

yes : (a b : ℕ) → b ≤ a → not (ltb a b) ≡ true
yes a b h = ap not (le-ltb a b h)

-- from a value s d / c of x, and y = x + 1
upped : (x y : Float) (a c : ℕ) → 0 < c → HasValue x true a c → c < a * 2 → a * 2 ≤ 5 * c → Up y a c → Upped x y
upped x y a c C h lo hi (inl w) =
    let z = w.0 in
    let v = w.1 in
    record {
      lo = half_le y false (c - a) c C v true 5;
      hi = le_half y false (c - a) c C v false 3 ∙ yes (3 * c) ((c - a) * 2) (omega arith);
      far = lt_half y false (c - a) c C v true 3;
      again = lt_half y false (c - a) c C v true 1 ∙ sym (lt_half x true a c C h true 3 ∙ le-ltb (3 * c) (a * 2) (omega arith));
      back = half_le y false (c - a) c C v false 1 ∙ no ((c - a) * 2) (1 * c) (omega arith);
      far_back = half_le y false (c - a) c C v false 3 ∙ no ((c - a) * 2) (3 * c) (omega arith);
    }
upped x y a c C h lo hi (inr w) =
    let z = w.0 in
    let v = w.1 in
    record {
      lo = half_le y true (a - c) c C v true 5 ∙ yes (5 * c) ((a - c) * 2) (omega arith);
      hi = le_half y true (a - c) c C v false 3;
      far = lt_half y true (a - c) c C v true 3 ∙ le-ltb (3 * c) ((a - c) * 2) (omega arith);
      again = lt_half y true (a - c) c C v true 1 ∙ both (1 * c) ((a - c) * 2) (3 * c) (a * 2) (cases (1 * c) ((a - c) * 2)) (λ g. omega arith) (λ g. omega arith) ∙ sym (lt_half x true a c C h true 3);
      back = half_le y true (a - c) c C v false 1 ∙ no 0 ((a - c) * 2 + 1 * c) (omega arith);
      far_back = half_le y true (a - c) c C v false 3 ∙ no 0 ((a - c) * 2 + 3 * c) (omega arith);
    }

downed : (x y : Float) (a c : ℕ) → 0 < c → HasValue x false a c → c ≤ a * 2 → a * 2 ≤ 3 * c → Down y a c → Downed x y
downed x y a c C h lo hi (inl w) =
    let z = w.0 in
    let v = w.1 in
    record {
      lo = half_le y true (c - a) c C v true 5 ∙ yes (5 * c) ((c - a) * 2) (omega arith);
      hi = le_half y true (c - a) c C v false 3;
      far = lt_half y true (c - a) c C v true 3 ∙ le-ltb (3 * c) ((c - a) * 2) (omega arith);
      back = lt_half y true (c - a) c C v true 1 ∙ le-ltb (1 * c) ((c - a) * 2) (omega arith);
      again = half_le y true (c - a) c C v false 1 ∙ no 0 ((c - a) * 2 + 1 * c) (omega arith) ∙ sym (half_le x false a c C h false 3 ∙ no (a * 2) (3 * c) (omega arith));
      far_again = half_le y true (c - a) c C v false 3 ∙ no 0 ((c - a) * 2 + 3 * c) (omega arith);
    }
downed x y a c C h lo hi (inr w) =
    let z = w.0 in
    let v = w.1 in
    record {
      lo = half_le y false (a - c) c C v true 5;
      hi = le_half y false (a - c) c C v false 3 ∙ yes (3 * c) ((a - c) * 2) (omega arith);
      far = lt_half y false (a - c) c C v true 3;
      back = lt_half y false (a - c) c C v true 1;
      again =
          half_le y false (a - c) c C v false 1
          ∙ ap not (both ((a - c) * 2) (1 * c) (a * 2) (3 * c) (cases ((a - c) * 2) (1 * c)) (λ g. omega arith) (λ g. omega arith))
          ∙ sym (half_le x false a c C h false 3);
      far_again = half_le y false (a - c) c C v false 3 ∙ no ((a - c) * 2) (3 * c) (omega arith);
    }

-- ---- the same from the tests alone
-- what the tests say of the size a / c of a float
pub below_half : (m : ℕ) (e : ℤ) → le (halves true 5) (fin true m e) ≡ true → lt (fin true m e) (halves true 1) ≡ true
    → (1 * down e < m * up e * 2) × (m * up e * 2 ≤ 5 * down e)
below_half m e lo h =
    let a = m * up e in
    let c = down e in (
      ltb-true (1 * c) (a * 2) (sym (lt_half (fin true m e) true a c (down_pos e) (own true m e) true 1) ∙ h),
      ltb-false (5 * c) (a * 2) (not-true (ltb (5 * c) (a * 2)) (sym (half_le (fin true m e) true a c (down_pos e) (own true m e) true 5) ∙ lo)),
    )

pub above_half : (m : ℕ) (e : ℤ) → le (fin false m e) (halves false 3) ≡ true → le (halves false 1) (fin false m e) ≡ true
    → (1 * down e ≤ m * up e * 2) × (m * up e * 2 ≤ 3 * down e)
above_half m e hi h =
    let a = m * up e in
    let c = down e in (
      ltb-false (a * 2) (1 * c) (not-true (ltb (a * 2) (1 * c)) (sym (half_le (fin false m e) false a c (down_pos e) (own false m e) false 1) ∙ h)),
      ltb-false (3 * c) (a * 2) (not-true (ltb (3 * c) (a * 2)) (sym (le_half (fin false m e) false a c (down_pos e) (own false m e) false 3) ∙ hi)),
    )

-- a negative float is not from 1/2 on, and one that is not negative is not below -1/2
pub minus_no : (m : ℕ) (e : ℤ) → le (halves false 1) (fin true m e) ≡ true → ⊥
minus_no m e h =
    let C = down_pos e in
    false≢true (sym (half_le (fin true m e) true (m * up e) (down e) C (own true m e) false 1 ∙ no 0 (m * up e * 2 + 1 * down e) (omega arith)) ∙ h)

pub plus_no : (m : ℕ) (e : ℤ) → lt (fin false m e) (halves true 1) ≡ true → ⊥
plus_no m e h = false≢true (sym (lt_half (fin false m e) false (m * up e) (down e) (down_pos e) (own false m e) true 1) ∙ h)

pub goes_up : (x : Float) → T (fits binary32 x) → le (halves true 5) x ≡ true → lt x (halves true 1) ≡ true → Upped x (add binary32 x one)
goes_up nan t lo h = unfold lt in absurd (false≢true h)
goes_up (inf true) t lo h = unfold le in absurd (false≢true lo)
goes_up (inf false) t lo h = unfold lt in absurd (false≢true h)
goes_up (fin false m e) t lo h = absurd (plus_no m e h)
goes_up (fin true m e) t lo h =
    let a = m * up e in
    let c = down e in
    let w = below_half m e lo h in
    let p = w.0 in
    let q = w.1 in
    let k : Known true m e = record { fit = t; low = omega arith; high = q } in
    upped (fin true m e) (add binary32 (fin true m e) one) a c (down_pos e) (own true m e) (omega arith) q (up_exact m e k)

pub goes_down : (x : Float) → T (fits binary32 x) → le x (halves false 3) ≡ true → le (halves false 1) x ≡ true → Downed x (sub binary32 x one)
goes_down nan t hi h = unfold le in absurd (false≢true h)
goes_down (inf true) t hi h = unfold le in absurd (false≢true h)
goes_down (inf false) t hi h = unfold le in absurd (false≢true hi)
goes_down (fin true m e) t hi h = absurd (minus_no m e h)
goes_down (fin false m e) t hi h =
    let a = m * up e in
    let c = down e in
    let w = above_half m e hi h in
    let p = w.0 in
    let q = w.1 in
    let k : Known false m e = record { fit = t; low = omega arith; high = omega arith } in
    downed (fin false m e) (sub binary32 (fin false m e) one) a c (down_pos e) (own false m e) (omega arith) q (down_exact m e k)

-- ---- the range of a fraction, and its turns
pub record Span (x : Float) : Type 0 where
  pub fit : T (fits binary32 x)
  pub lo : le (halves true 5) x ≡ true
  pub hi : le x (halves false 3) ≡ true

-- NaN, or from -5/2 to 3/2
abbrev pub InRange : Float → Type 0
InRange x = (x ≡ nan) ⊎ Span x

module _ (x : Float) where
  pub move_up : lt x (halves true 1) ≡ true → move x ≡ add binary32 x one
  unfolding move
  move_up h = rw h

  pub move_down : lt x (halves true 1) ≡ false → le (halves false 1) x ≡ true → move x ≡ sub binary32 x one
  unfolding move
  move_down h k = rw (h, k)

  pub move_rest : Rests x → move x ≡ x
  unfolding move
  move_rest r = rw (r.0, r.1)

  pub turn_up : lt x (halves true 1) ≡ true → turn x ≡ negsuc 0
  unfolding turn
  turn_up h = rw h

  pub turn_down : lt x (halves true 1) ≡ false → le (halves false 1) x ≡ true → turn x ≡ pos 1
  unfolding turn
  turn_down h k = rw (h, k)

  pub turn_rest : Rests x → turn x ≡ pos 0
  unfolding turn
  turn_rest r = rw (r.0, r.1)

nan_rests : Rests nan
unfolding lt le
nan_rests = (refl, refl)

pub rests_nan : (x : Float) → x ≡ nan → Rests x
rests_nan x e = subst Rests (sym e) nan_rests

pub span_up : (x : Float) → Span x → lt x (halves true 1) ≡ true → Span (add binary32 x one)
span_up x s h =
    let u = goes_up x s.fit s.lo h in
    record { fit = add-fits binary32 x one; lo = u.lo; hi = u.hi }

pub span_down : (x : Float) → Span x → le (halves false 1) x ≡ true → Span (sub binary32 x one)
span_down x s h =
    let u = goes_down x s.fit s.hi h in
    record { fit = sub-fits binary32 x one; lo = u.lo; hi = u.hi }

-- at rest after one turn more, and after two
after_up : (x y : Float) → Upped x y → T (fits binary32 y) → (b : Bool) → lt x (halves true 3) ≡ b → Rests (move y)
after_up x y u t false k =
    let r : Rests y = (u.again ∙ k, u.back) in
    subst Rests (sym (move_rest y r)) r
after_up x y u t true k =
    let g : lt y (halves true 1) ≡ true = u.again ∙ k in
    let v = goes_up y t u.lo g in
    subst Rests (sym (move_up y g)) (v.again ∙ u.far, v.back)

after_down : (x y : Float) → Downed x y → T (fits binary32 y) → (b : Bool) → le (halves false 3) x ≡ b → Rests (move y)
after_down x y u t false k =
    let r : Rests y = (u.back, u.again ∙ k) in
    subst Rests (sym (move_rest y r)) r
after_down x y u t true k =
    let g : le (halves false 1) y ≡ true = u.again ∙ k in
    let v = goes_down y t u.hi g in
    subst Rests (sym (move_down y u.back g)) (v.back, v.again ∙ u.far_again)

-- whichever of the three a fraction is at
pub which : (x : Float) → (lt x (halves true 1) ≡ true) ⊎ (((lt x (halves true 1) ≡ false) × (le (halves false 1) x ≡ true)) ⊎ Rests x)
which x = go (lt x (halves true 1)) (le (halves false 1) x) refl refl
  where
    go : (p q : Bool) → lt x (halves true 1) ≡ p → le (halves false 1) x ≡ q → (lt x (halves true 1) ≡ true) ⊎ (((lt x (halves true 1) ≡ false) × (le (halves false 1) x ≡ true)) ⊎ Rests x)
    go true q h k = inl h
    go false true h k = inr (inl (h, k))
    go false false h k = inr (inr (h, k))

rest_twice : (x : Float) → Rests x → Rests (move (move x))
rest_twice x r = subst (λ (y : Float). Rests (move y)) (sym (move_rest x r)) (subst Rests (sym (move_rest x r)) r)

-- THE THEOREM: after two turns nothing is left to move
pub rests_after_two : (x : Float) → InRange x → Rests (move (move x))
rests_after_two x (inl e) = rest_twice x (rests_nan x e)
rests_after_two x (inr s) = elim (which x) [
  | inl h ↦ subst (λ (y : Float). Rests (move y)) (sym (move_up x h)) (after_up x (add binary32 x one) (goes_up x s.fit s.lo h) (add-fits binary32 x one) (lt x (halves true 3)) refl)
  | inr w ↦ elim w [
    | inl h ↦ subst (λ (y : Float). Rests (move y)) (sym (move_down x h.0 h.1)) (after_down x (sub binary32 x one) (goes_down x s.fit s.hi h.1) (sub-fits binary32 x one) (le (halves false 3) x) refl)
    | inr r ↦ rest_twice x r
  ]
]

-- ---- for a loop: turns that are left, at most four by this count, and falling
abbrev count : Bool → ℕ
count b = cond b 1 0

unfoldable pub todo : Float → ℕ
todo x = count (lt x (halves true 3)) + count (lt x (halves true 1)) + count (le (halves false 1) x) + count (le (halves false 3) x)

pub todo_le : (x : Float) → todo x ≤ 4
unfolding todo
todo_le x = four (lt x (halves true 3)) (lt x (halves true 1)) (le (halves false 1) x) (le (halves false 3) x)
  where
    one_at_most : (b : Bool) → count b ≤ 1
    one_at_most true = lit≤ tt
    one_at_most false = lit≤ tt

    four : (p q r s : Bool) → count p + count q + count r + count s ≤ 4
    four p q r s = omega (arith, one_at_most p, one_at_most q, one_at_most r, one_at_most s)

fewer_up : (p q r s : Bool) (u v w z : Bool) → q ≡ true → u ≡ false → v ≡ p → w ≡ false → z ≡ false → count u + count v + count w + count z < count p + count q + count r + count s
fewer_up p q r s u v w z a b c d e = omega (arith, ap count a, ap count b, ap count c, ap count d, ap count e)

fewer_down : (p q r s : Bool) (u v w z : Bool) → r ≡ true → u ≡ false → v ≡ false → w ≡ s → z ≡ false → count u + count v + count w + count z < count p + count q + count r + count s
fewer_down p q r s u v w z a b c d e = omega (arith, ap count a, ap count b, ap count c, ap count d, ap count e)

pub todo_up : (x : Float) → Span x → lt x (halves true 1) ≡ true → todo (add binary32 x one) < todo x
unfolding todo
todo_up x s h =
    let u = goes_up x s.fit s.lo h in
    let y = add binary32 x one in
    fewer_up (lt x (halves true 3)) (lt x (halves true 1)) (le (halves false 1) x) (le (halves false 3) x)
    (lt y (halves true 3)) (lt y (halves true 1)) (le (halves false 1) y) (le (halves false 3) y) h u.far u.again u.back u.far_back

pub todo_down : (x : Float) → Span x → le (halves false 1) x ≡ true → todo (sub binary32 x one) < todo x
unfolding todo
todo_down x s h =
    let u = goes_down x s.fit s.hi h in
    let y = sub binary32 x one in
    fewer_down (lt x (halves true 3)) (lt x (halves true 1)) (le (halves false 1) x) (le (halves false 3) x)
    (lt y (halves true 3)) (lt y (halves true 1)) (le (halves false 1) y) (le (halves false 3) y) h u.far u.back u.again u.far_again

-- ---- a turn changes neither where the fraction comes to rest nor the whole of the moves
pub rest_rest : (x : Float) → Rests x → after_moves x ≡ x
unfolding after_moves
rest_rest x r = ap move (move_rest x r) ∙ move_rest x r

pub rest_move : (x : Float) → InRange x → after_moves (move x) ≡ after_moves x
unfolding after_moves
rest_move x r = move_rest (move (move x)) (rests_after_two x r)

pub moved_rest : (x : Float) → Rests x → gained x ≡ pos 0
unfolding gained
moved_rest x r = ap (λ (z : ℤ). z +ℤ turn (move x)) (turn_rest x r) ∙ ap (λ (y : Float). pos 0 +ℤ turn y) (move_rest x r) ∙ ap (λ (z : ℤ). pos 0 +ℤ z) (turn_rest x r)

pub moved_move : (x : Float) → InRange x → turn x +ℤ gained (move x) ≡ gained x
unfolding gained
moved_move x r = ap (λ (z : ℤ). turn x +ℤ (turn (move x) +ℤ z)) (turn_rest (move (move x)) (rests_after_two x r)) ∙ ap (λ (z : ℤ). turn x +ℤ z) (+ℤ_idr (turn (move x)))
