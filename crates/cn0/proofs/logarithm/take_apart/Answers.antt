-- `cn0::logarithm::take_apart` meets its contract. The pattern of a positive x is k * 2 ^ 23 + q; the code finds k and q back from it, and moves q up to 32 digits.
-- Assumes nothing.
use mathlib.Core.Path.{◌≡◌, ap, ◌∙◌}
use Prim.Native.Nat.{ℕ, ◌+◌, ◌-◌, ◌/◌, ◌^◌, ◌<◌, ◌≤◌}
use native.Mathlib.Omega.{arith}
use lib.Bits.{bit_and, and_mask}
use lib.Ieee.{Float, binary32, to_bits, fits}
use denote.Floats.{passes}
use Rattle.cn0.proofs.Pattern.{Written, Found, found, upper, lower, placed, positive_no_nan}
use Rattle.cn0.proofs.logarithm.take_apart.Goals as goal
use Rattle.cn0.proofs.logarithm.take_apart.Goals.{Joined-field-gt0, then-field-gt0, else-field-gt0}

-- where the leading digit has a field of its own
upper_is : (x : Float) (k q : ℕ) → Found x → 0 < to_bits binary32 x / 2 ^ 23 → q ≡ bit_and (to_bits binary32 x) 8388607 + 2 ^ 23 → k ≡ to_bits binary32 x / 2 ^ 23 - 1 → Written x k q
upper_is x k q f h a b =
    let w = f.is in
    let B = to_bits binary32 x in
    let m = and_mask B 23 in
    let u = upper B f.k f.q w.bits w.few w.lead h in
    rw (b ∙ u.1, a ∙ ap (λ (n : ℕ). n + 2 ^ 23) m ∙ u.0) w

lower_is : (x : Float) (k q : ℕ) → Found x → to_bits binary32 x / 2 ^ 23 ≤ 0 → q ≡ bit_and (to_bits binary32 x) 8388607 → k ≡ to_bits binary32 x / 2 ^ 23 - 1 → Written x k q
lower_is x k q f h a b =
    let w = f.is in
    let B = to_bits binary32 x in
    let m = and_mask B 23 in
    let u = lower B f.k f.q w.bits w.few w.lead h in
    let z : B / 2 ^ 23 - 1 ≡ 0 = omega arith in
    rw (b ∙ z ∙ u.1, a ∙ m ∙ u.0) w

-- where the branches join
there : (c : Joined-field-gt0) → Written c.args.x c.saturating_sub-k.result c.if-field-gt0.q
there c =
    let x = c.args.x in
    let k = c.saturating_sub-k.result in
    let f = found x (passes (fits binary32 x) c.well_formed.0.1) c.requires in
    elim c.if-field-gt0.branch [
      | then-field-gt0 w ↦ upper_is x k c.if-field-gt0.q f (omega arith) w.q-is c.saturating_sub-k.ensures
      | else-field-gt0 w ↦ lower_is x k c.if-field-gt0.q f (omega arith) w.q-is c.saturating_sub-k.ensures
    ]

pub float_to_bits-bits : goal.float_to_bits-bits
float_to_bits-bits c = positive_no_nan c.args.x c.requires

pub overflow_add-result : goal.overflow_add-result
overflow_add-result c =
    let p = placed _ _ _ (there c) in
    omega (arith, p.small)

pub returns : goal.returns
returns c = rw c.from.ensures (placed _ _ _ (there (goal.at.returns c).Joined-field-gt0))
