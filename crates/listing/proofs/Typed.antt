-- Every value of the type `Answer` is stored, and every one of `ShortAnswer`: what ties a value to its bytes in memory has the widths of
-- its fields.
-- Assumes nothing.
use mathlib.Core.List.{List, [], ◌∷◌}
use Prim.Native.Nat.{ℕ, zero, suc, ◌<◌}
use native.Mathlib.Omega.{arith}
use lib.ListN.{get_or}
use mir.Val.{Val}
use denote.Floats.{passes}
use denote.Laws.{Is}
use denote.Shadow.{shadow}
use denote.Array.{each}
use denote.Builtin.{u8}
use Rattle.search.specs.declared.Answer.{Answer}
use Rattle.search.specs.declared.ShortAnswer.{ShortAnswer}
use Rattle.search.specs.Short.{of_short}
use Rattle.search.specs.contracts.Answer as answer
use Rattle.search.specs.contracts.ShortAnswer as short_answer_law
use Rattle.listing.specs.Determines.{Stored}

bytes : (xs : List ℕ) (us : List Val) → shadow (each ℕ u8.own_val xs us) → (k : ℕ) → get_or xs k 0 < 256
bytes [] us s k = omega arith
bytes (x ∷ xs) [] s k = absurd s
bytes (x ∷ xs) (u ∷ us) s zero = s.0.1
bytes (x ∷ xs) (u ∷ us) s (suc k) = bytes xs us s.1 k

pub stored : (a : Answer) (vs : List Val) → Is answer.the_row a vs → Stored a
stored a vs p =
    let q = p.1.1 in
    record {
      number = q.0.1;
      message = bytes a.message q.1.1.0.0 q.1.1.0.1.1;
      cn0 = passes _ q.1.1.1.0.1;
      index = q.1.1.1.1.0.1;
      fraction = passes _ q.1.1.1.1.1.0.1;
      undecided = q.1.1.1.1.1.1.0.1;
    }

pub stored_short : (a : ShortAnswer) (vs : List Val) → Is short_answer_law.the_row a vs → Stored (of_short a)
stored_short a vs p =
    let q = p.1.1 in
    record {
      number = q.0.1;
      message = bytes a.message q.1.1.0.0 q.1.1.0.1.1;
      cn0 = passes _ q.1.1.1.0.1;
      index = q.1.1.1.1.0.1;
      fraction = passes _ q.1.1.1.1.1.0.1;
      undecided = q.1.1.1.1.1.1.0.1;
    }
