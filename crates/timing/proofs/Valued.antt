-- A float is told by its number, but for the sign of a zero: two that are as much less than a third are equal.
--     less_same
-- Assumes nothing.
use mathlib.Core.Path.{◌≡◌, refl, sym, ap, ◌∙◌, subst}
use mathlib.Core.Bool.{Bool, true, false, cond, true≢false, false≢true}
use mathlib.Core.Logic.{◌⊎◌, inl, inr}
use Prim.Native.Nat.{ℕ, zero, suc, ◌*◌, ◌<◌}
use native.Mathlib.Nat.{mul_comm, mul_assoc, mul_right_comm, zero-mul, mul-pos, eq_of_mul-eq-mul_right}
use borrow.Author.Tests.{eq-eqb}
use lib.IntN.{ℤ, pos, negsuc, neg_ℤ, ◌+ℤ◌, ◌-ℤ◌, ◌*ℤ◌, neg_ℤ-neg_ℤ, pos-ne-negsuc}
use lib.Ieee.{Float, nan, inf, fin, up, down, level, eq}
use lib.Ieee.Fits.{down_pos}
use lib.Ieee.Exact.{HasValue}
use Rattle.timing.specs.Exact.{Is, LessBy}
use Rattle.timing.proofs.Moving.{times_sum}

-- ---- integers times a number

neg_times : (z : ℤ) (d : ℕ) → neg_ℤ z *ℤ pos d ≡ neg_ℤ (z *ℤ pos d)
neg_times (pos zero) d = rw (zero-mul d)
neg_times (pos (suc n)) d = refl
neg_times (negsuc n) d = sym (neg_ℤ-neg_ℤ (pos (suc n * d)))

times_twice : (k : ℤ) (c d : ℕ) → k *ℤ pos c *ℤ pos d ≡ k *ℤ pos (c * d)
times_twice (pos n) c d = ap pos (mul_assoc n c d)
times_twice (negsuc n) c d = neg_times (pos (suc n * c)) d ∙ ap (λ (i : ℕ). neg_ℤ (pos i)) (mul_assoc (suc n) c d)

spread : (n k : ℤ) (c d : ℕ) → (n -ℤ k *ℤ pos c) *ℤ pos d ≡ n *ℤ pos d -ℤ k *ℤ pos (c * d)
spread n k c d =
    times_sum n (pos d) (neg_ℤ (k *ℤ pos c))
    ∙ ap (λ (x : ℤ). n *ℤ pos d +ℤ x) (neg_times (k *ℤ pos c) d ∙ ap neg_ℤ (times_twice k c d))

-- ---- one float, one number

abbrev signed : Bool → ℕ → ℤ
signed s a = cond s (neg_ℤ (pos a)) (pos a)

signed_times : (s : Bool) (a d : ℕ) → signed s (a * d) ≡ signed s a *ℤ pos d
signed_times true a d = sym (neg_times (pos a) d)
signed_times false a d = refl

value_times : (x : Float) (s : Bool) (a c d : ℕ) → HasValue x s a c → HasValue x s (a * d) (c * d)
value_times nan s a c d h = h
value_times (inf t) s a c d h = h
value_times (fin t m e) s a c d h = (
  h.0,
  sym (mul_assoc (m * up e) c d) ∙ ap (λ (i : ℕ). i * d) h.1 ∙ mul_right_comm a (down e) d,
)

-- over a greater denominator
is_times : (x : Float) (n : ℤ) (c d : ℕ) → Is x n c → Is x (n *ℤ pos d) (c * d)
is_times x n c d i =
    record {
      negative = i.negative;
      size = i.size * d;
      value = value_times x i.negative i.size c d i.value;
      signed = signed_times i.negative i.size d ∙ ap (λ (z : ℤ). z *ℤ pos d) i.signed;
    }

one_number : (x : Float) (n m : ℤ) (c : ℕ) → Is x n c → Is x m c → n ≡ m
one_number nan n m c i j = absurd i.value
one_number (inf t) n m c i j = absurd i.value
one_number (fin t k e) n m c i j =
    let s : i.negative ≡ j.negative = sym i.value.0 ∙ j.value.0 in
    let a : i.size ≡ j.size = eq_of_mul-eq-mul_right (down e) (down_pos e) i.size j.size (sym i.value.1 ∙ j.value.1) in
    sym i.signed ∙ rw (s, a) j.signed

-- ---- one number, one float

zeros : (a b : ℕ) → neg_ℤ (pos a) ≡ pos b → (a ≡ 0) × (b ≡ 0)
zeros zero b e = (refl, let q : 0 ≡ b = cc in sym q)
zeros (suc a) b e = absurd (pos-ne-negsuc b a (sym e))

module _ (C : ℕ) (P : 0 < C) (X E a Y D b : ℕ) (p : X * C ≡ a * E) (q : Y * C ≡ b * D) where
  crossed : a ≡ b → X * D ≡ Y * E
  crossed e =
      eq_of_mul-eq-mul_right C P (X * D) (Y * E)
      (mul_right_comm X D C ∙ ap (λ (i : ℕ). i * D) p ∙ mul_right_comm a E D ∙ rw e (ap (λ (i : ℕ). i * E) (sym q) ∙ mul_right_comm Y C E))

  nought : a ≡ 0 → X * D ≡ 0
  nought e =
      let x : X ≡ 0 = eq_of_mul-eq-mul_right C P X 0 (p ∙ ap (λ (i : ℕ). i * E) e ∙ zero-mul E ∙ sym (zero-mul C)) in
      ap (λ (i : ℕ). i * D) x ∙ zero-mul D

equal : (s t : Bool) (a b : ℕ) → s ≡ t → a ≡ b → level s a t b ≡ true
equal true true a b e h = rw (eq-eqb a b h)
equal false false a b e h = rw (eq-eqb a b h)
equal true false a b e h = absurd (true≢false e)
equal false true a b e h = absurd (false≢true e)

both_nought : (s t : Bool) (a b : ℕ) → a ≡ 0 → b ≡ 0 → level s a t b ≡ true
both_nought true true a b e h = rw (e, h)
both_nought true false a b e h = rw (e, h)
both_nought false true a b e h = rw (e, h)
both_nought false false a b e h = rw (e, h)

same_size : (s t : Bool) (a b : ℕ) → signed s a ≡ signed t b → ((s ≡ t) × (a ≡ b)) ⊎ ((a ≡ 0) × (b ≡ 0))
same_size true true a b e = let q : pos a ≡ pos b = sym (neg_ℤ-neg_ℤ (pos a)) ∙ ap neg_ℤ e ∙ neg_ℤ-neg_ℤ (pos b) in inl (refl, cc)
same_size false false a b e = inl (refl, cc)
same_size true false a b e = inr (zeros a b e)
same_size false true a b e = let z = zeros b a (sym e) in inr (z.1, z.0)

same_number : (x y : Float) (n : ℤ) (c : ℕ) → 0 < c → Is x n c → Is y n c → eq x y ≡ true
unfolding eq
same_number nan y n c h i j = absurd i.value
same_number (inf t) y n c h i j = absurd i.value
same_number (fin s m e) nan n c h i j = absurd j.value
same_number (fin s m e) (inf t) n c h i j = absurd j.value
same_number (fin s m e) (fin t k d) n c h i j =
    let p = i.value.1 in
    let q = j.value.1 in
    elim (same_size i.negative j.negative i.size j.size (i.signed ∙ sym j.signed)) [
      | inl w ↦
          equal s t (m * up e * down d) (k * up d * down e) (i.value.0 ∙ w.0 ∙ sym j.value.0)
          (crossed c h (m * up e) (down e) i.size (k * up d) (down d) j.size p q w.1)
      | inr w ↦
          both_nought s t (m * up e * down d) (k * up d * down e)
          (nought c h (m * up e) (down e) i.size (k * up d) (down d) j.size p q w.0)
          (nought c h (k * up d) (down d) j.size (m * up e) (down e) i.size q p w.1)
    ]

pub less_same : (k : ℤ) (x y z : Float) → LessBy k x y → LessBy k x z → eq y z ≡ true
less_same k x y z l r =
    let c = l.den in
    let d = r.den in
    let swap : d * c ≡ c * d = mul_comm d c in
    let other : Is x (r.num *ℤ pos c) (c * d) = subst (Is x (r.num *ℤ pos c)) swap (is_times x r.num d c r.before) in
    let same : l.num *ℤ pos d ≡ r.num *ℤ pos c = one_number x (l.num *ℤ pos d) (r.num *ℤ pos c) (c * d) (is_times x l.num c d l.before) other in
    let here : Is y ((l.num -ℤ k *ℤ pos c) *ℤ pos d) (c * d) = is_times y (l.num -ℤ k *ℤ pos c) c d l.after in
    let there : Is z ((r.num -ℤ k *ℤ pos d) *ℤ pos c) (c * d) = subst (Is z ((r.num -ℤ k *ℤ pos d) *ℤ pos c)) swap (is_times z (r.num -ℤ k *ℤ pos d) d c r.after) in
    let e : (r.num -ℤ k *ℤ pos d) *ℤ pos c ≡ (l.num -ℤ k *ℤ pos c) *ℤ pos d =
    spread r.num k d c
    ∙ ap (λ (a : ℤ). a -ℤ k *ℤ pos (d * c)) (sym same)
    ∙ ap (λ (a : ℕ). l.num *ℤ pos d -ℤ k *ℤ pos a) swap
    ∙ sym (spread l.num k c d) in
    same_number y z ((l.num -ℤ k *ℤ pos c) *ℤ pos d) (c * d) (mul-pos l.above r.above) here (subst (λ (a : ℤ). Is z a (c * d)) e there)
