-- An index is refused by its own number.
-- Assumes nothing.
use mathlib.Core.Path.{◌≡◌, refl}
use mathlib.Core.Bool.{Bool, true, false, ◌&&◌, cond}
use Prim.Native.Nat.{ℕ, ◌^◌}
use native.Mathlib.Omega.{arith}
use lib.Dec.{leb}
use Rattle.refusals.specs.declared.Refusal.{Refusal}
use Rattle.refusals.specs.declared.Refusal.TheVariants.{Input, Output, Level, Threshold, Index, Place, Position, HalfWidth, Malformed}
use Rattle.refusals.specs.Refusals.{number}
use Rattle.search.specs.Answers.{index_number}

pub refused_index : (e : Refusal) (index : ℕ) → number e ≡ index_number index → e ≡ Index
unfolding index_number
refused_index e index = go e (leb 128 index && leb index (2 ^ 63))
  where
    go : (e : Refusal) (b : Bool) → number e ≡ cond b 0 6 → e ≡ Index
    go Index b h = refl
    go Input true h = absurd (omega arith)
    go Input false h = absurd (omega arith)
    go Output true h = absurd (omega arith)
    go Output false h = absurd (omega arith)
    go Level true h = absurd (omega arith)
    go Level false h = absurd (omega arith)
    go Threshold true h = absurd (omega arith)
    go Threshold false h = absurd (omega arith)
    go Place true h = absurd (omega arith)
    go Place false h = absurd (omega arith)
    go Position true h = absurd (omega arith)
    go Position false h = absurd (omega arith)
    go HalfWidth true h = absurd (omega arith)
    go HalfWidth false h = absurd (omega arith)
    go Malformed true h = absurd (omega arith)
    go Malformed false h = absurd (omega arith)
