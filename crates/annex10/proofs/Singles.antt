-- The remainders of the 112 single positions of a 14-byte message, as a list that computed tests walk: each is x times the next.
--     single_is, two_is     they are the patterns' own, and those of two positions their xor
-- Assumes nothing.
use mathlib.Core.Path.{◌≡◌, ap₂, ◌∙◌}
use mathlib.Core.Bool.{Bool}
use mathlib.Core.List.{List, [], ◌∷◌}
use Prim.Native.Nat.{ℕ, zero, suc, ◌<◌}
use native.Mathlib.Nat.{lt_trans}
use lib.Dec.{T, eqb, eqb→eq}
use lib.ListN.{get_or}
use lib.Bits.{bit_xor}
use Rattle.lists.proofs.Test.{all_below, below}
use Rattle.annex10.specs.Remainder.{bring, remainder}
use Rattle.annex10.specs.Flip.{flip}
use Rattle.annex10.specs.declared.Repairs.TheVariants.{One, Two}
use Rattle.annex10.specs.Repair.{repaired, pattern}
use Rattle.annex10.proofs.Repairing.{pattern_two}

-- the n positions before those of xs, of which the last has the remainder r
unfoldable pub singles_from : ℕ → ℕ → List ℕ → List ℕ
singles_from zero r xs = xs
singles_from (suc n) r xs = singles_from n (bring r 0) (r ∷ xs)

unfoldable pub singles : List ℕ
singles = singles_from 112 0xFFF409 []

unfoldable pub S : ℕ → ℕ
S j = get_or singles j 0

test : List ℕ → ℕ → Bool
test ss j = eqb (pattern 14 (One j)) (get_or ss j 0)

holds : T (all_below 112 (test singles))
unfolding test singles singles_from pattern repaired flip remainder
holds = tt

pub single_is : (j : ℕ) → j < 112 → pattern 14 (One j) ≡ S j
unfolding test S
single_is j h = eqb→eq _ _ (below 112 (test singles) holds j h)

pub two_is : (j k : ℕ) → j < k → k < 112 → pattern 14 (Two j k) ≡ bit_xor (S j) (S k)
two_is j k hj hk = pattern_two 14 j k ∙ ap₂ bit_xor (single_is j (lt_trans hj hk)) (single_is k hk)
