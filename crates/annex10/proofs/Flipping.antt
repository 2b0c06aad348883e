-- A bit turned over, in strings of any length.
--     remainder_flip            the remainder gains that of the bit's own pattern
--     bit_flipped, bit_kept     this bit differs, and no other
--     flip_back, flip_swap      the same position twice cancels; the order of two is free
-- Assumes nothing.
use mathlib.Core.Path.{◌≡◌, refl, sym, ap, ap₂, ◌∙◌}
use mathlib.Core.List.{List, [], ◌∷◌}
use mathlib.Core.Logic.{◌≢◌}
use mathlib.Core.Bool.{Bool, cond}
use borrow.Author.Tests.{eq-eqb, ne_eqb}
use lib.Dec.{T, eqb, eqb→eq}
use Prim.Native.Nat.{ℕ, zero, suc, ◌-◌, ◌*◌, ◌/◌, ◌%◌, ◌^◌, ◌<◌}
use native.Mathlib.Decide.{ℕ_discrete}
use native.Mathlib.Omega.{arith}
use lib.ListN.{length, get_or, set, replicate, length-set, length-replicate}
use lib.Seq.{get_or-set_same, get_or-set_other}
use lib.Bits.{bit_xor, xor_zero_r, xor_shr, xor_mod, xor_comm}
use Rattle.annex10.specs.Remainder.{remainder}
use Rattle.annex10.specs.Division.{xors}
use Rattle.annex10.specs.Flip.{flip}
use Rattle.lists.specs.Bits.{bit_at}
use Rattle.annex10.proofs.Linear.{remainder_linear}
use Rattle.lists.proofs.Test.{all_below, below}
use Rattle.lists.proofs.Xor.{xor_assoc, xor_back}

pub length_flip : (m : List ℕ) (j : ℕ) → length (flip m j) ≡ length m
unfolding flip
length_flip m j = length-set m (j / 8) (bit_xor (get_or m (j / 8) 0) (2 ^ (7 - j % 8)))

-- ---- the remainder

xors_none : (m : List ℕ) → xors m (replicate (length m) 0) ≡ m
xors_none [] = refl
xors_none (x ∷ m) = ap₂ (λ (y : ℕ) (l : List ℕ). y ∷ l) (xor_zero_r x) (xors_none m)

set_xors : (m : List ℕ) (p v : ℕ)
    → set m p (bit_xor (get_or m p 0) v) ≡ xors m (set (replicate (length m) 0) p (bit_xor (get_or (replicate (length m) 0) p 0) v))
set_xors [] p v = refl
set_xors (x ∷ m) zero v = ap (λ (l : List ℕ). bit_xor x v ∷ l) (sym (xors_none m))
set_xors (x ∷ m) (suc p) v = ap₂ (λ (y : ℕ) (l : List ℕ). y ∷ l) (sym (xor_zero_r x)) (set_xors m p v)

pub remainder_flip : (m : List ℕ) (j : ℕ) → remainder (flip m j) ≡ bit_xor (remainder m) (remainder (flip (replicate (length m) 0) j))
unfolding flip
remainder_flip m j =
    ap remainder (set_xors m (j / 8) (2 ^ (7 - j % 8)))
    ∙ remainder_linear m (flip (replicate (length m) 0) j) (sym (length_flip (replicate (length m) 0) j ∙ length-replicate (length m) 0))

-- ---- the bits

-- of the powers of two below 2^8, 2^e has its bit at e alone
single : ℕ → ℕ → Bool
single e d = eqb (2 ^ e / 2 ^ d % 2) (cond (eqb e d) 1 0)

singles : T (all_below 8 (λ e. all_below 8 (single e)))
unfolding single
singles = tt

power_bit : (e d : ℕ) → e < 8 → d < 8 → 2 ^ e / 2 ^ d % 2 ≡ cond (eqb e d) 1 0
unfolding single
power_bit e d he hd = eqb→eq _ _ (below 8 (single e) (below 8 (λ x. all_below 8 (single x)) singles e he) d hd)

xor_one : (b : ℕ) → b < 2 → bit_xor b 1 ≡ 1 - b
xor_one zero h = refl
xor_one (suc zero) h = refl
xor_one (suc (suc b)) h = absurd (omega arith)

-- a bit of a byte with another bit, or this one, turned over
byte_bit : (x e d : ℕ) → e < 8 → d < 8 → bit_xor x (2 ^ e) / 2 ^ d % 2 ≡ bit_xor (x / 2 ^ d % 2) (cond (eqb e d) 1 0)
byte_bit x e d he hd = rw (xor_shr x (2 ^ e) d) (xor_mod (x / 2 ^ d) (2 ^ e / 2 ^ d) 1 ∙ ap (bit_xor (x / 2 ^ d % 2)) (power_bit e d he hd))

-- the bit itself
pub bit_flipped : (m : List ℕ) (j : ℕ) → j < 8 * length m → bit_at (flip m j) j ≡ 1 - bit_at m j
unfolding bit_at flip
bit_flipped m j h =
    let k : 7 - j % 8 < 8 = omega arith in
    let l : j / 8 < length m = omega arith in
    rw (get_or-set_same m (j / 8) (bit_xor (get_or m (j / 8) 0) (2 ^ (7 - j % 8))) 0 l, byte_bit (get_or m (j / 8) 0) (7 - j % 8) (7 - j % 8) k k, eq-eqb (7 - j % 8) (7 - j % 8) refl)
    (xor_one _ (omega arith))

-- every other bit
pub bit_kept : (m : List ℕ) (j i : ℕ) → j < 8 * length m → i ≢ j → bit_at (flip m j) i ≡ bit_at m i
unfolding bit_at flip
bit_kept m j i h n = elim (ℕ_discrete (i / 8) (j / 8)) [ yes e ↦ same e | no e ↦ rw (get_or-set_other m (j / 8) (i / 8) (bit_xor (get_or m (j / 8) 0) (2 ^ (7 - j % 8))) 0 e) refl ]
  where
    same : i / 8 ≡ j / 8 → get_or (set m (j / 8) (bit_xor (get_or m (j / 8) 0) (2 ^ (7 - j % 8)))) (i / 8) 0 / 2 ^ (7 - i % 8) % 2 ≡ get_or m (i / 8) 0 / 2 ^ (7 - i % 8) % 2
    same e =
        let l : j / 8 < length m = omega arith in
        let p : 7 - j % 8 < 8 = omega arith in
        let q : 7 - i % 8 < 8 = omega arith in
        let o : (7 - j % 8 ≡ 7 - i % 8) → ⊥ = λ z. n (omega arith) in
        rw (e, get_or-set_same m (j / 8) (bit_xor (get_or m (j / 8) 0) (2 ^ (7 - j % 8))) 0 l, byte_bit (get_or m (j / 8) 0) (7 - j % 8) (7 - i % 8) p q, ne_eqb (7 - j % 8) (7 - i % 8) o)
        (xor_zero_r _)

-- ---- the same position twice, and two positions in either order

twice : (m : List ℕ) (p v : ℕ) → set (set m p (bit_xor (get_or m p 0) v)) p (bit_xor (get_or (set m p (bit_xor (get_or m p 0) v)) p 0) v) ≡ m
twice [] p v = refl
twice (x ∷ m) zero v = ap (λ (y : ℕ). y ∷ m) (xor_back x v)
twice (x ∷ m) (suc p) v = ap (λ (l : List ℕ). x ∷ l) (twice m p v)

pub flip_back : (m : List ℕ) (j : ℕ) → flip (flip m j) j ≡ m
unfolding flip
flip_back m j = twice m (j / 8) (2 ^ (7 - j % 8))

swapped : (m : List ℕ) (p q v w : ℕ)
    → set (set m p (bit_xor (get_or m p 0) v)) q (bit_xor (get_or (set m p (bit_xor (get_or m p 0) v)) q 0) w)
    ≡ set (set m q (bit_xor (get_or m q 0) w)) p (bit_xor (get_or (set m q (bit_xor (get_or m q 0) w)) p 0) v)
swapped [] p q v w = refl
swapped (x ∷ m) zero zero v w =
    ap (λ (y : ℕ). y ∷ m) (xor_assoc x v w ∙ ap (bit_xor x) (xor_comm v w) ∙ sym (xor_assoc x w v))
swapped (x ∷ m) zero (suc q) v w = refl
swapped (x ∷ m) (suc p) zero v w = refl
swapped (x ∷ m) (suc p) (suc q) v w = ap (λ (l : List ℕ). x ∷ l) (swapped m p q v w)

pub flip_swap : (m : List ℕ) (j k : ℕ) → flip (flip m j) k ≡ flip (flip m k) j
unfolding flip
flip_swap m j k = swapped m (j / 8) (k / 8) (2 ^ (7 - j % 8)) (2 ^ (7 - k % 8))

-- ---- the first byte

-- a byte in front: the positions below 8 are its own
pub flip_head : (x : ℕ) (m : List ℕ) (j : ℕ) → get_or (flip (x ∷ m) j) 0 0 ≡ get_or (flip (x ∷ []) j) 0 0
unfolding flip
flip_head x m j = head_set (j / 8) (2 ^ (7 - j % 8))
  where
    head_set : (p v : ℕ) → get_or (set (x ∷ m) p (bit_xor (get_or (x ∷ m) p 0) v)) 0 0 ≡ get_or (set (x ∷ []) p (bit_xor (get_or (x ∷ []) p 0) v)) 0 0
    head_set zero v = refl
    head_set (suc p) v = refl
