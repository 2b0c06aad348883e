-- L as the code computes it: 65536 times the place, and the digits, less 65536 * 150. It is exact as an f32.
-- Assumes nothing.
use mathlib.Core.Path.{◌≡◌, sym, ap, ◌∙◌, subst}
use mathlib.Core.Bool.{Bool, true, false, not}
use Prim.Native.Nat.{ℕ, suc, ◌+◌, ◌-◌, ◌*◌, ◌^◌, ◌≤◌, ◌<◌}
use native.Mathlib.Omega.{arith}
use lib.Dec.{T, ltb, ltb→lt, nltb→le, lt→ltb, le→leb}
use lib.IntN.{ℤ, pos, sub_ℕ, ◌+ℤ◌, ◌-ℤ◌, ◌*ℤ◌}
use lib.Ieee.{Float, binary32, in_float}
use mir.Syntax.{w32}
use mir.Val.{SFits, to_z, of_z}
use mir.ValLaws.{to_z_pos, to_z-of_z}
use Rattle.cn0.specs.Logarithm.{floor_log, digits, log_steps}
use Rattle.cn0.specs.Inner.{Placed}
use Rattle.floats.proofs.Integers.{sub_ge, sub_lt, sub_same, neg_pos}

scaled : (p d : ℕ) → sub_ℕ (65536 * p + d) 9830400 ≡ pos 65536 *ℤ sub_ℕ p 150 +ℤ pos d
scaled p d = go (ltb p 150) (ltb→lt p 150) (nltb→le p 150)
  where
    go : (t : Bool) → (T t → p < 150) → (T (not t) → 150 ≤ p) → sub_ℕ (65536 * p + d) 9830400 ≡ pos 65536 *ℤ sub_ℕ p 150 +ℤ pos d
    go true h k =
        let l = h tt in
        sub_same (65536 * p + d) 9830400 d (suc (65536 * suc (150 - suc p) - 1)) (omega arith)
        ∙ sym (ap (λ (z : ℤ). pos 65536 *ℤ z +ℤ pos d) (sub_lt p 150 l) ∙ ap (λ (z : ℤ). z +ℤ pos d) (neg_pos (65536 * suc (150 - suc p)) (omega arith)))
    go false h k =
        let l = k tt in
        sub_ge (65536 * p + d) 9830400 (omega arith) ∙ ap pos (omega arith) ∙ sym (ap (λ (z : ℤ). pos 65536 *ℤ z +ℤ pos d) (sub_ge p 150 l))

sub-fits : (n : ℕ) → n < 2 ^ 31 → SFits w32 (sub_ℕ n 9830400)
sub-fits n h = go (ltb n 9830400) (ltb→lt n 9830400) (nltb→le n 9830400)
  where
    go : (t : Bool) → (T t → n < 9830400) → (T (not t) → 9830400 ≤ n) → SFits w32 (sub_ℕ n 9830400)
    go true a b = subst (λ (z : ℤ). SFits w32 z) (sym (sub_lt n 9830400 (a tt))) (record { sfits = omega arith })
    go false a b = subst (λ (z : ℤ). SFits w32 z) (sym (sub_ge n 9830400 (b tt))) (record { sfits = omega arith })

pub steps_fit : (n : ℕ) → n < 2 ^ 31 → SFits w32 (to_z w32 n -ℤ pos 9830400)
steps_fit n h = subst (λ (z : ℤ). SFits w32 (z -ℤ pos 9830400)) (sym (to_z_pos w32 n h)) (sub-fits n h)

pub steps_are : (x : Float) (p s d : ℕ) → Placed x p s → d ≡ digits 16 0 s → d < 2 ^ 16 → to_z w32 (of_z w32 (to_z w32 (65536 * p + d) -ℤ pos 9830400)) ≡ log_steps x
unfolding log_steps
steps_are x p s d w e l =
    let g = w.small in
    let n : 65536 * p + d < 2 ^ 31 = omega arith in
    to_z-of_z w32 (to_z w32 (65536 * p + d) -ℤ pos 9830400) (steps_fit (65536 * p + d) n)
    ∙ ap (λ (z : ℤ). z -ℤ pos 9830400) (to_z_pos w32 (65536 * p + d) n)
    ∙ scaled p d
    ∙ ap (λ (z : ℤ). pos 65536 *ℤ z +ℤ pos d) (sym w.log)
    ∙ ap (λ (j : ℕ). pos 65536 *ℤ floor_log x +ℤ pos j) (e ∙ ap (λ (j : ℕ). digits 16 0 j) w.sign)

sub_exact : (n : ℕ) → n < 2 ^ 24 + 9830400 → T (in_float binary32 (sub_ℕ n 9830400))
unfolding in_float
sub_exact n h = go (ltb n 9830400) (ltb→lt n 9830400) (nltb→le n 9830400)
  where
    go : (t : Bool) → (T t → n < 9830400) → (T (not t) → 9830400 ≤ n) → T (in_float binary32 (sub_ℕ n 9830400))
    go true a b = subst (λ (z : ℤ). T (in_float binary32 z)) (sym (sub_lt n 9830400 (a tt))) (lt→ltb (9830400 - suc n) (2 ^ 24) (omega arith))
    go false a b = subst (λ (z : ℤ). T (in_float binary32 z)) (sym (sub_ge n 9830400 (b tt))) (le→leb (n - 9830400) (2 ^ 24) (omega arith))

pub steps_exact : (n : ℕ) → n < 2 ^ 24 + 9830400 → T (in_float binary32 (to_z w32 (of_z w32 (to_z w32 n -ℤ pos 9830400))))
steps_exact n h =
    let l : n < 2 ^ 31 = omega arith in
    subst (λ (z : ℤ). T (in_float binary32 z)) (sym (to_z-of_z w32 (to_z w32 n -ℤ pos 9830400) (steps_fit n l) ∙ ap (λ (z : ℤ). z -ℤ pos 9830400) (to_z_pos w32 n l))) (sub_exact n h)
