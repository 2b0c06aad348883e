-- One bit of a message turned over, as the code computes it.
-- Assumes nothing.
use mathlib.Core.Path.{◌≡◌, refl, ap, ◌∙◌}
use mathlib.Core.List.{List, [], ◌∷◌}
use Prim.Native.Nat.{ℕ, zero, suc, ◌%◌, ◌^◌, ◌<◌, ◌*◌, ◌≤◌}
use native.Mathlib.Nat.{one-mul, mod-eq_of_lt, lt_of_le_of_lt, le_of_suc-le-suc}
use native.Mathlib.Omega.{arith}
use lib.Dec.{lit<}
use lib.ListN.{length, set}
use lib.Pow.{pow_mono}

-- one bit, as the code shifts it into its place
pub shifted : (e : ℕ) → e < 8 → 1 * 2 ^ e % 256 ≡ 2 ^ e
shifted e h = ap (λ (x : ℕ). x % 256) (one-mul (2 ^ e)) ∙ mod-eq_of_lt (lt_of_le_of_lt (pow_mono (le_of_suc-le-suc h)) (lit< tt))

-- a store that falls behind the end
pub set_out : (l : List ℕ) (p v : ℕ) → length l ≤ p → set l p v ≡ l
set_out [] p v h = refl
set_out (x ∷ l) zero v h = absurd (omega arith)
set_out (x ∷ l) (suc p) v h = ap (λ (r : List ℕ). x ∷ r) (set_out l p v (omega arith))
