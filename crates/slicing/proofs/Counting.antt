-- Laws of the count of undecided bits.
--     undecided_done    the answer for a message of 7 or 14 bytes
-- Assumes nothing.
use mathlib.Core.Path.{◌≡◌, refl}
use mathlib.Core.Bool.{Bool, true, false, ◌||◌}
use mathlib.Core.List.{List}
use Prim.Native.Nat.{ℕ, ◌*◌}
use borrow.Author.Tests.{eqb-true}
use lib.Dec.{eqb}
use lib.ListN.{length}
use lib.Ieee.{Float}
use Rattle.lists.specs.Told.{done}
use Rattle.annex10.specs.Length.{message_length}
use Rattle.place.specs.declared.Slicer.{Slicer}
use Rattle.slicing.specs.Undecided.{undecided_in, undecided_of}

module _ (slicer : Slicer) (symbols : List Float) where
  -- of a message of n bytes, from its 16 * n symbols
  pub undecided_done : (n : ℕ) → message_length n ≡ true → length symbols ≡ 32 * n → undecided_of symbols slicer ≡ done (undecided_in slicer symbols (8 * n))
  unfolding undecided_of message_length
  undecided_done n t l = go (eqb n 7) refl t
    where
      go : (b : Bool) → eqb n 7 ≡ b → (b || eqb n 14) ≡ true → undecided_of symbols slicer ≡ done (undecided_in slicer symbols (8 * n))
      go true q e = rw (l, eqb-true n 7 q)
      go false q e = rw (l, eqb-true n 14 e)
