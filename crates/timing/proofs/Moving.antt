-- The moves together are exact: what the fraction loses the index gains, over one denominator and with nothing rounded.
--     moves_exact     of every fraction in range that is no NaN
-- Assumes nothing.
use mathlib.Core.Path.{◌≡◌, refl, sym, ap, ◌∙◌, subst}
use mathlib.Core.Logic.{inl, inr}
use mathlib.Core.Bool.{Bool, true, false, cond, true≢false, false≢true}
use Prim.Native.Nat.{ℕ, zero, suc, ◌-◌, ◌*◌, ◌<◌, ◌≤◌}
use native.Mathlib.Nat.{mul_comm, mul-sub, mul_right_comm, one-mul, zero-mul, mul-le-mul_right, le_of_mul-le-mul_right, eq_of_mul-eq-mul_right}
use native.Mathlib.Omega.{arith}
use native.Mathlib.Decide.{dec_lt}
use lib.Dec.{T}
use lib.IntN.{ℤ, pos, negsuc, neg_ℤ, ◌+ℤ◌, ◌-ℤ◌, ◌*ℤ◌, +ℤ_idr, +ℤ-suc_ℤ, +ℤ-pred_ℤ, +ℤ_assoc, suc_ℤ-*ℤ, pred_ℤ-*ℤ, zero-*ℤ, neg_ℤ-neg_ℤ, neg_ℤ-+ℤ, suc_ℤ, pred_ℤ}
use lib.Ieee.{Float, nan, inf, fin, binary32, up, down, fits, add, sub, lt, le, is_nan}
use lib.Ieee.Fits.{down_pos}
use lib.Ieee.Exact.{HasValue}
use Rattle.floats.proofs.Integers.{sub_ge, sub_lt, neg_pos}
use Rattle.timing.specs.Subsample.{one, halves, move, turn, after_moves, gained}
use Rattle.timing.specs.Inner.{in_range}
use Rattle.timing.specs.Exact.{Is, LessBy}
use Rattle.timing.proofs.Exactly.{Up, Down, up_exact, down_exact}
use Rattle.timing.proofs.Turning.{Span, InRange, which, span_up, span_down, move_up, move_down, move_rest, turn_up, turn_down, turn_rest, below_half, above_half, minus_no, plus_no}
use Rattle.timing.proofs.Reading.{range_gives}

-- ---- one denominator for another: x is a / d and n / c

minus : (x y z : ℕ) → (x - y) * z ≡ x * z - y * z
minus x y z = mul_comm (x - y) z ∙ mul-sub z x y ∙ rw (mul_comm z x, mul_comm z y)

rescaled : (x : Float) (s : Bool) (w l n c : ℕ) → 0 < l → n * l ≡ w * c → HasValue x s w l → HasValue x s n c
rescaled nan s w l n c h e v = v
rescaled (inf t) s w l n c h e v = v
rescaled (fin t m e) s w l n c h q v = (
  v.0,
  eq_of_mul-eq-mul_right l h (m * up e * c) (n * down e)
      (mul_right_comm (m * up e) c l
      ∙ ap (λ (k : ℕ). k * c) v.1
      ∙ mul_right_comm w (down e) c
      ∙ ap (λ (k : ℕ). k * down e) (sym q)
      ∙ mul_right_comm n l (down e)),
)

module _ (a d n c : ℕ) (C : 0 < c) (D : 0 < d) (e : a * c ≡ n * d) where
  at_most : a ≤ d → n ≤ c
  at_most h =
      let g = mul-le-mul_right c h in
      let k = mul_comm d c in
      le_of_mul-le-mul_right {m = n} {n = c} {k = d} (omega arith) D

  at_least : d ≤ a → c ≤ n
  at_least h =
      let g = mul-le-mul_right c h in
      let k = mul_comm d c in
      le_of_mul-le-mul_right {m = c} {n = n} {k = d} (omega arith) D

  back_most : n ≤ c → a ≤ d
  back_most h =
      let g = mul-le-mul_right d h in
      let k = mul_comm d c in
      le_of_mul-le-mul_right {m = a} {n = d} {k = c} (omega arith) C

  back_least : c ≤ n → d ≤ a
  back_least h =
      let g = mul-le-mul_right d h in
      let k = mul_comm d c in
      le_of_mul-le-mul_right {m = d} {n = a} {k = c} (omega arith) C

  over : (c - n) * d ≡ (d - a) * c
  over = minus c n d ∙ rw (mul_comm c d, ← e) (sym (minus d a c))

  under : (n - c) * d ≡ (a - d) * c
  under = minus n c d ∙ rw (mul_comm c d, ← e) (sym (minus a d c))

-- ---- integers

-- a sum times z is the sum of the products, as k counts up and down from 0
module _ (m z : ℤ) where
  abbrev pub Sums : ℤ → Type 0
  Sums k = (m +ℤ k) *ℤ z ≡ m *ℤ z +ℤ k *ℤ z

  sums_zero : Sums (pos 0)
  sums_zero = ap (λ (x : ℤ). x *ℤ z) (+ℤ_idr m) ∙ sym (ap (λ (x : ℤ). m *ℤ z +ℤ x) (zero-*ℤ z) ∙ +ℤ_idr (m *ℤ z))

  sums_more : (k : ℤ) → Sums k → Sums (suc_ℤ k)
  sums_more k h =
      ap (λ (x : ℤ). x *ℤ z) (+ℤ-suc_ℤ m k)
      ∙ suc_ℤ-*ℤ (m +ℤ k) z
      ∙ ap (λ (x : ℤ). x +ℤ z) h
      ∙ +ℤ_assoc (m *ℤ z) (k *ℤ z) z
      ∙ ap (λ (x : ℤ). m *ℤ z +ℤ x) (sym (suc_ℤ-*ℤ k z))

  sums_less : (k : ℤ) → Sums k → Sums (pred_ℤ k)
  sums_less k h =
      ap (λ (x : ℤ). x *ℤ z) (+ℤ-pred_ℤ m k)
      ∙ pred_ℤ-*ℤ (m +ℤ k) z
      ∙ ap (λ (x : ℤ). x -ℤ z) h
      ∙ +ℤ_assoc (m *ℤ z) (k *ℤ z) (neg_ℤ z)
      ∙ ap (λ (x : ℤ). m *ℤ z +ℤ x) (sym (pred_ℤ-*ℤ k z))

  sums_pos : (n : ℕ) → Sums (pos n)
  sums_pos zero = sums_zero
  sums_pos (suc n) = sums_more (pos n) (sums_pos n)

  sums_neg : (n : ℕ) → Sums (negsuc n)
  sums_neg zero = sums_less (pos 0) sums_zero
  sums_neg (suc n) = sums_less (negsuc n) (sums_neg n)

  pub times_sum : (k : ℤ) → Sums k
  times_sum (pos n) = sums_pos n
  times_sum (negsuc n) = sums_neg n

-- two turns together
together : (n t u z : ℤ) → n -ℤ t *ℤ z -ℤ u *ℤ z ≡ n -ℤ (t +ℤ u) *ℤ z
together n t u z =
    +ℤ_assoc n (neg_ℤ (t *ℤ z)) (neg_ℤ (u *ℤ z))
    ∙ ap (λ (x : ℤ). n +ℤ x) (sym (neg_ℤ-+ℤ (t *ℤ z) (u *ℤ z)) ∙ ap neg_ℤ (sym (times_sum t z u)))

-- one sample to the fraction, one from it, none
abbrev signed : Bool → ℕ → ℤ
signed s n = cond s (neg_ℤ (pos n)) (pos n)

gives_one : (n : ℤ) (c : ℕ) → n -ℤ negsuc 0 *ℤ pos c ≡ n +ℤ pos c
gives_one n c = ap (λ (x : ℤ). n +ℤ x) (neg_ℤ-neg_ℤ (pos (1 * c)) ∙ ap pos (one-mul c))

takes_one : (n : ℤ) (c : ℕ) → n -ℤ pos 1 *ℤ pos c ≡ n +ℤ neg_ℤ (pos c)
takes_one n c = ap (λ (x : ℕ). n +ℤ neg_ℤ (pos x)) (one-mul c)

takes_none : (n : ℤ) (c : ℕ) → n -ℤ pos 0 *ℤ pos c ≡ n
takes_none n c = ap (λ (x : ℕ). n +ℤ neg_ℤ (pos x)) (zero-mul c) ∙ +ℤ_idr n

less_a : (a c : ℕ) → a ≤ c → neg_ℤ (pos a) +ℤ pos c ≡ pos (c - a)
less_a zero c h = ap pos (omega arith)
less_a (suc a) c h = sub_ge c (suc a) h

less_c : (a c : ℕ) → c < a → neg_ℤ (pos a) +ℤ pos c ≡ neg_ℤ (pos (a - c))
less_c zero c h = absurd (omega arith)
less_c (suc a) c h = sub_lt c (suc a) h ∙ ap negsuc (omega arith) ∙ sym (neg_pos (suc a - c) (omega arith))

take_c : (a c : ℕ) → c ≤ a → pos a +ℤ neg_ℤ (pos c) ≡ pos (a - c)
take_c a zero h = ap pos (omega arith)
take_c a (suc c) h = sub_ge a (suc c) h

take_a : (a c : ℕ) → a < c → pos a +ℤ neg_ℤ (pos c) ≡ neg_ℤ (pos (c - a))
take_a a zero h = absurd (omega arith)
take_a a (suc c) h = sub_lt a (suc c) h ∙ ap negsuc (omega arith) ∙ sym (neg_pos (suc c - a) (omega arith))

-- ---- a turn

module _ (c : ℕ) (C : 0 < c) where
  up_is : (m : ℕ) (e : ℤ) (y : Float) (n : ℕ) → m * up e * c ≡ n * down e → Up y (m * up e) (down e) → Is y (neg_ℤ (pos n) +ℤ pos c) c
  up_is m e y n q (inl h) =
      let a = m * up e in
      let D = down_pos e in
      record {
        negative = false;
        size = c - n;
        value = rescaled y false (down e - a) (down e) (c - n) c D (over a (down e) n c C D q) h.1;
        signed = sym (less_a n c (at_most a (down e) n c C D q h.0));
      }
  up_is m e y n q (inr h) =
      let a = m * up e in
      let D = down_pos e in
      record {
        negative = true;
        size = n - c;
        value = rescaled y true (a - down e) (down e) (n - c) c D (under a (down e) n c C D q) h.1;
        signed = sym (less_c n c (more_than (λ k. let j = back_most a (down e) n c C D q k in let i = h.0 in omega arith)));
      }
    where
      more_than : ¬ (n ≤ c) → c < n
      more_than f = elim (dec_lt c n) [ yes l ↦ l | no l ↦ absurd (f (omega arith)) ]

  down_is : (m : ℕ) (e : ℤ) (y : Float) (n : ℕ) → m * up e * c ≡ n * down e → Down y (m * up e) (down e) → Is y (pos n +ℤ neg_ℤ (pos c)) c
  down_is m e y n q (inl h) =
      let a = m * up e in
      let D = down_pos e in
      record {
        negative = true;
        size = c - n;
        value = rescaled y true (down e - a) (down e) (c - n) c D (over a (down e) n c C D q) h.1;
        signed = sym (take_a n c (fewer_than (λ k. let j = back_least a (down e) n c C D q k in let i = h.0 in omega arith)));
      }
    where
      fewer_than : ¬ (c ≤ n) → n < c
      fewer_than f = elim (dec_lt n c) [ yes l ↦ l | no l ↦ absurd (f (omega arith)) ]
  down_is m e y n q (inr h) =
      let a = m * up e in
      let D = down_pos e in
      record {
        negative = false;
        size = n - c;
        value = rescaled y false (a - down e) (down e) (n - c) c D (under a (down e) n c C D q) h.1;
        signed = sym (take_c n c (at_least a (down e) n c C D q h.0));
      }

  goes_up : (x : Float) (n : ℤ) → Span x → lt x (halves true 1) ≡ true → Is x n c → Is (add binary32 x one) (n +ℤ pos c) c
  goes_up nan n s h i = unfold lt in absurd (false≢true h)
  goes_up (inf true) n s h i = unfold le in absurd (false≢true s.lo)
  goes_up (inf false) n s h i = unfold lt in absurd (false≢true h)
  goes_up (fin false m e) n s h i = absurd (plus_no m e h)
  goes_up (fin true m e) n s h i =
      let w = below_half m e s.lo h in
      let p = w.0 in
      let b : true ≡ i.negative = i.value.0 in
      let k : neg_ℤ (pos i.size) ≡ n = ap (λ (t : Bool). signed t i.size) b ∙ i.signed in
      subst (λ (z : ℤ). Is (add binary32 (fin true m e) one) (z +ℤ pos c) c) k
      (up_is m e (add binary32 (fin true m e) one) i.size i.value.1 (up_exact m e (record { fit = s.fit; low = omega arith; high = w.1 })))

  goes_down : (x : Float) (n : ℤ) → Span x → le (halves false 1) x ≡ true → Is x n c → Is (sub binary32 x one) (n +ℤ neg_ℤ (pos c)) c
  goes_down nan n s h i = unfold le in absurd (false≢true h)
  goes_down (inf true) n s h i = unfold le in absurd (false≢true h)
  goes_down (inf false) n s h i = unfold le in absurd (false≢true s.hi)
  goes_down (fin true m e) n s h i = absurd (minus_no m e h)
  goes_down (fin false m e) n s h i =
      let w = above_half m e s.hi h in
      let p = w.0 in
      let q = w.1 in
      let b : false ≡ i.negative = i.value.0 in
      let k : pos i.size ≡ n = ap (λ (t : Bool). signed t i.size) b ∙ i.signed in
      subst (λ (z : ℤ). Is (sub binary32 (fin false m e) one) (z +ℤ neg_ℤ (pos c)) c) k
      (down_is m e (sub binary32 (fin false m e) one) i.size i.value.1 (down_exact m e (record { fit = s.fit; low = omega arith; high = omega arith })))

  -- the fraction loses what the index gains
  one_turn : (x : Float) (n : ℤ) → Span x → Is x n c → Span (move x) × Is (move x) (n -ℤ turn x *ℤ pos c) c
  one_turn x n s i = elim (which x) [
    | inl h ↦ (
      subst Span (sym (move_up x h)) (span_up x s h),
      rw (move_up x h, turn_up x h, gives_one n c) (goes_up x n s h i),
    )
    | inr w ↦ elim w [
      | inl h ↦ (
        subst Span (sym (move_down x h.0 h.1)) (span_down x s h.1),
        rw (move_down x h.0 h.1, turn_down x h.0 h.1, takes_one n c) (goes_down x n s h.1 i),
      )
      | inr r ↦ (subst Span (sym (move_rest x r)) s, rw (move_rest x r, turn_rest x r, takes_none n c) i)
    ]
  ]

  two_turns : (x : Float) (n : ℤ) → Span x → Is x n c → Is (after_moves x) (n -ℤ gained x *ℤ pos c) c
  unfolding after_moves gained
  two_turns x n s i =
      let (t, j) = one_turn x n s i in
      subst (λ (z : ℤ). Is (move (move x)) z c) (together n (turn x) (turn (move x)) (pos c)) (one_turn (move x) (n -ℤ turn x *ℤ pos c) t j).1

exact : (f : Float) → Span f → LessBy (gained f) f (after_moves f)
exact nan s = unfold le in absurd (false≢true s.lo)
exact (inf true) s = unfold le in absurd (false≢true s.lo)
exact (inf false) s = unfold le in absurd (false≢true s.hi)
exact (fin s m e) h =
    let i : Is (fin s m e) (signed s (m * up e)) (down e) = record { negative = s; size = m * up e; value = (refl, refl); signed = refl } in
    record {
      num = signed s (m * up e);
      den = down e;
      above = down_pos e;
      before = i;
      after = two_turns (down e) (down_pos e) (fin s m e) (signed s (m * up e)) h i;
    }

pub moves_exact : (f : Float) → T (fits binary32 f) → in_range f ≡ true → is_nan f ≡ false → LessBy (gained f) f (after_moves f)
moves_exact f t e n = go (range_gives f t e)
  where
    go : InRange f → LessBy (gained f) f (after_moves f)
    go (inl h) = absurd (true≢false (sym (ap is_nan h ∙ unfold is_nan in refl) ∙ n))
    go (inr s) = exact f s
