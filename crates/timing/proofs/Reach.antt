-- Whatever the parabola's value is, the fraction starts from -5/2 to 3/2, or is NaN.
-- Assumes nothing.
use mathlib.Core.Path.{◌≡◌, refl, sym, ap, ◌∙◌, subst}
use mathlib.Core.Logic.{◌⊎◌, inl, inr}
use mathlib.Core.Bool.{Bool, true, false, not, cond}
use Prim.Native.Nat.{ℕ, ◌+◌, ◌-◌, ◌*◌, ◌<◌, ◌≤◌}
use native.Mathlib.Nat.{le_trans, mul-le-mul_right}
use native.Mathlib.Omega.{arith}
use lib.Dec.{ltb, lit<, lit≤}
use lib.IntN.{ℤ}
use lib.Ieee.{Float, nan, inf, fin, binary32, up, down, below, round, sum, add, sub, lt, le, of_bits}
use lib.Ieee.Fits.{down_pos, sub-fits}
use borrow.Author.Tests.{ltb-false, le-ltb}
use Rattle.floats.proofs.Compare.{lt_values, le_values}
use Rattle.floats.proofs.Bounds.{Mag, Size, Own, round_mag, add_mag}
use Rattle.timing.specs.declared.Offset.{Offset}
use Rattle.timing.specs.declared.Offset.TheVariants.{Earlier, Same, Later}
use Rattle.timing.specs.Subsample.{one, minus_one, halves, held, offset_of, fraction_of}
use Rattle.timing.proofs.Turning.{InRange}

-- the halves that are used round to themselves
own_1 : Own 1
unfolding round
own_1 = (refl, refl)

own_3 : Own 3
unfolding round
own_3 = (refl, refl)

own_4 : Own 4
unfolding round
own_4 = (refl, refl)

own_5 : Own 5
unfolding round
own_5 = (refl, refl)

-- ---- held to [-1, 1]
plain : (a c : ℕ) → a * 1 ≤ 1 * c → a * 2 ≤ 2 * c
plain a c h = omega arith

held_mag : (x : Float) → (held x ≡ nan) ⊎ Size (held x) 2
unfolding held
held_mag nan = unfold lt in inl refl
held_mag (inf true) = unfold lt in inr (true, (refl, lit≤ tt))
held_mag (inf false) = unfold lt in inr (false, (refl, lit≤ tt))
held_mag (fin s m e) = inr (go s (lt (fin s m e) minus_one) (lt one (fin s m e)) (lt_values (fin s m e) minus_one s (m * up e) (down e) true 1 1 (down_pos e) (lit< tt) (refl, refl) (refl, refl)) (lt_values one (fin s m e) false 1 1 s (m * up e) (down e) (lit< tt) (down_pos e) (refl, refl) (refl, refl)))
  where
    go : (s p q : Bool) → p ≡ below s (m * up e * 1) true (1 * down e) → q ≡ below false (1 * down e) s (m * up e * 1) → Size (cond p minus_one (cond q one (fin s m e))) 2
    go s true q h k = (true, (refl, lit≤ tt))
    go s false true h k = (false, (refl, lit≤ tt))
    go true false false h k = (true, (refl, plain (m * up e) (down e) (ltb-false (1 * down e) (m * up e * 1) (sym h))))
    go false false false h k = (false, (refl, plain (m * up e) (down e) (ltb-false (1 * down e) (m * up e * 1) (sym k))))

-- ---- within -5/2 and 3/2
abbrev Within : Float → Type 0
Within y = (le (halves true 5) y ≡ true) × (le y (halves false 3) ≡ true)

fits_within : (a c K : ℕ) → K ≤ 5 → a * 2 ≤ K * c → a * 2 ≤ 5 * c
fits_within a c K l h = le_trans h (mul-le-mul_right c l)

within_minus : (y : Float) (K : ℕ) → K ≤ 5 → Mag y true K → Within y
within_minus nan K l h = absurd h
within_minus (inf s) K l h = absurd h
within_minus (fin s m e) K l h = (
  le_values (halves true 5) (fin s m e) true 5 2 true (m * up e) (down e) (lit< tt) (down_pos e) (refl, refl) (h.0, refl) ∙ ap not (le-ltb (5 * down e) (m * up e * 2) (fits_within (m * up e) (down e) K l h.1)),
  le_values (fin s m e) (halves false 3) true (m * up e) (down e) false 3 2 (down_pos e) (lit< tt) (h.0, refl) (refl, refl),
)

within_plus : (y : Float) → Mag y false 3 → Within y
within_plus nan h = absurd h
within_plus (inf s) h = absurd h
within_plus (fin s m e) h = (
  le_values (halves true 5) (fin s m e) true 5 2 false (m * up e) (down e) (lit< tt) (down_pos e) (refl, refl) (h.0, refl),
  le_values (fin s m e) (halves false 3) false (m * up e) (down e) false 3 2 (down_pos e) (lit< tt) (h.0, refl) (refl, refl) ∙ ap not (le-ltb (3 * down e) (m * up e * 2) h.1),
)

-- ---- less a half
opened : (s : Bool) (m : ℕ) (e : ℤ) → sub binary32 (fin s m e) (halves false 1) ≡ sum binary32 s (m * up e * 2) true (1 * down e) (down e * 2)
unfolding sub
opened s m e = refl

less_minus : (a c : ℕ) → sum binary32 true (a * 2) true (1 * c) (c * 2) ≡ round binary32 true (a * 2 + 1 * c) (c * 2)
unfolding sum
less_minus a c = refl

less_plus : (a c : ℕ) → 0 < c → a * 2 ≤ 4 * c → Within (sum binary32 false (a * 2) true (1 * c) (c * 2))
unfolding sum
less_plus a c C h = go (ltb (a * 2) (1 * c))
  where
    go : (p : Bool) → Within (cond p (round binary32 true (1 * c - a * 2) (c * 2)) (round binary32 false (a * 2 - 1 * c) (c * 2)))
    go true = within_minus (round binary32 true (1 * c - a * 2) (c * 2)) 1 (lit≤ tt) (round_mag true (1 * c - a * 2) (c * 2) 1 (omega arith) own_1 (omega arith))
    go false = within_plus (round binary32 false (a * 2 - 1 * c) (c * 2)) (round_mag false (a * 2 - 1 * c) (c * 2) 3 (omega arith) own_3 (omega arith))

less_half : (x : Float) (s : Bool) → Mag x s 4 → Within (sub binary32 x (halves false 1))
less_half nan s h = absurd h
less_half (inf t) s h = absurd h
less_half (fin true m e) s h =
    let a = m * up e in
    let c = down e in
    let C = down_pos e in
    let l : a * 2 ≤ 4 * c = h.1 in
    subst Within (sym (opened true m e ∙ less_minus a c)) (within_minus (round binary32 true (a * 2 + 1 * c) (c * 2)) 5 (lit≤ tt) (round_mag true (a * 2 + 1 * c) (c * 2) 5 (omega arith) own_5 (omega arith)))
less_half (fin false m e) s h = subst Within (sym (opened false m e)) (less_plus (m * up e) (down e) (down_pos e) h.1)

offset_size : (o : Offset) → Size (offset_of o) 2
unfolding of_bits
offset_size Earlier = (true, (refl, lit≤ tt))
offset_size Same = (false, (refl, lit≤ tt))
offset_size Later = (false, (refl, lit≤ tt))

pub fraction_reaches : (v : Float) (o : Offset) → InRange (fraction_of v o)
unfolding fraction_of
fraction_reaches v o = elim (held_mag v) [
  | inl e ↦ inl (ap (λ (x : Float). sub binary32 (add binary32 x (offset_of o)) (halves false 1)) e ∙ nan_stays (offset_of o))
  | inr w ↦
      let z = offset_size o in
      let t = add_mag (held v) (offset_of o) w.0 z.0 2 2 own_4 w.1 z.1 in
      let b = less_half (add binary32 (held v) (offset_of o)) t.0 t.1 in
      inr (record { fit = sub-fits binary32 (add binary32 (held v) (offset_of o)) (halves false 1); lo = b.0; hi = b.1 })
]
  where
    nan_stays : (x : Float) → sub binary32 (add binary32 nan x) (halves false 1) ≡ nan
    nan_stays x = unfold add in unfold sub in refl
