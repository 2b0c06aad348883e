-- Laws of slicing.
--     pair_inside, pair_lt        what is told of two symbols, and that it is a bit
--     bits_done, marks_done       all bits of both streams in turn are stored, or all marks
--     bits_turned, marks_turned   they are the bits of the streams, and their marks
--     as_bit_lt, either            the bit of a test is below 2, and such a bit or another
--     sliced_bit_lt, mark_bit_lt    a bit is below 2
--     sliced_length, bit_sliced   a stream has 18 bytes, and its bits are those of the slicer
--     bit_marked                  the bits of its marks
-- Assumes nothing.
use mathlib.Core.Path.{◌≡◌, refl, ◌∙◌}
use mathlib.Core.List.{List}
use mathlib.Core.Bool.{Bool, true, false, not, ◌&&◌, cond}
use Prim.Native.Nat.{ℕ, ◌+◌, ◌*◌, ◌/◌, ◌%◌, ◌<◌, ◌≤◌}
use native.Mathlib.Decide.{ℕ_discrete}
use native.Mathlib.Omega.{arith}
use borrow.Author.Tests.{lt-ltb}
use lib.Dec.{ltb, lit<}
use lib.ListN.{length, get_or, set}
use lib.Ieee.{Float, lt, nan}
use Rattle.lists.specs.Bits.{as_bit, bit_at, value, packed}
use Rattle.lists.specs.From.{tabulate}
use Rattle.lists.proofs.Table.{Done, done_more, done_all, length_tabulate, get_d_tabulate, tabulate_is}
use Rattle.lists.proofs.Bits.{bit_at_packed}
use Rattle.math.specs.declared.Complex.{Complex}
use Rattle.place.specs.declared.Slicer.{Slicer}
use Rattle.kernels.specs.Symbols.{complex_at}
use Rattle.slicing.specs.Slices.{measure, greater_by, undecided, of_pair, sliced_bit, mark_bit, sliced, marks}
use Rattle.slicing.specs.Inner.{measures_of, in_turn, bits_in_turn, marks_in_turn}

pub as_bit_lt : (t : Bool) → as_bit t < 2
as_bit_lt true = lit< tt
as_bit_lt false = lit< tt

pub either : (t : Bool) {n m : ℕ} → n < 2 → m < 2 → cond t n m < 2
either true h k = h
either false h k = k

-- ---- what is told of two symbols

module _ (test : Complex → Complex → Bool) (last : ℕ) (row : List Float) where
  pub pair_inside : (stream i : ℕ) {z w : Complex} {t : Bool} → 2 * i + stream + 1 < 288
      → z ≡ complex_at row (2 * i + stream) → w ≡ complex_at row (2 * i + stream + 1) → t ≡ test z w → as_bit t ≡ of_pair test last row stream i
  pair_inside stream i h e f g = rw (lt-ltb _ _ h, g, e, f)

  pub pair_lt : last < 2 → (stream i : ℕ) → of_pair test last row stream i < 2
  pair_lt l stream i =
      either (ltb (2 * i + stream + 1) 288) (as_bit_lt (test (complex_at row (2 * i + stream)) (complex_at row (2 * i + stream + 1)))) l

-- the same in a loop over the bits of both streams in turn: bit j compares measures j and j + 1
module _ (test : Float → Float → Bool) (end : ℕ) where
  pub turn_inside : (xs : List Float) (j : ℕ) {b : ℕ} → j < 287 → b ≡ as_bit (test (get_or xs j nan) (get_or xs (j + 1) nan)) → b ≡ in_turn test end xs j
  turn_inside xs j h e = e ∙ rw (lt-ltb (j + 1) 288 (omega arith))

  -- the last one is stored after the loop
  turn_done : (xs : List Float) (ys : List ℕ) (i : ℕ) → i ≤ 287 → 287 ≤ i → Done 0 (in_turn test end xs) 288 ys i
      → set ys 287 end ≡ tabulate 288 (in_turn test end xs)
  turn_done xs ys i a b r =
      let e : i ≡ 287 = omega arith in
      done_all 0 (in_turn test end xs) 288 (set ys 287 end) (287 + 1) (omega arith)
      (done_more 0 (in_turn test end xs) 288 ys 287 end (omega arith) (rw e at r) refl)

  module _ (slicer : Slicer) (row : List Float) where
    measured : (j : ℕ) → j < 288 → get_or (measures_of slicer row) j nan ≡ measure slicer (complex_at row j)
    unfolding measures_of
    measured j h = get_d_tabulate 288 (λ (i : ℕ). measure slicer (complex_at row i)) j nan h

    abbrev told : ℕ → ℕ → ℕ
    told = of_pair (λ a b. test (measure slicer a) (measure slicer b)) end row

    turned_at : (j : ℕ) → j < 288 → in_turn test end (measures_of slicer row) j ≡ told (j % 2) (j / 2)
    turned_at j h =
        let q : 2 * (j / 2) + j % 2 ≡ j = omega arith in
        elim (ℕ_discrete j 287) [
          | yes e ↦ rw e
          | no n ↦ rw (q, lt-ltb (j + 1) 288 (omega arith), measured j h, measured (j + 1) (omega arith))
        ]

    pub turned : tabulate 288 (in_turn test end (measures_of slicer row)) ≡ tabulate 288 (λ (j : ℕ). told (j % 2) (j / 2))
    turned =
        let f : ℕ → ℕ = in_turn test end (measures_of slicer row) in
        tabulate_is 0 (λ (j : ℕ). told (j % 2) (j / 2)) 288 (tabulate 288 f) (length_tabulate 288 f)
        (λ j h. get_d_tabulate 288 f j 0 h ∙ turned_at j h)

pub bits_done : (xs : List Float) (ys : List ℕ) (i : ℕ) → i ≤ 287 → 287 ≤ i → Done 0 (in_turn (λ a b. lt b a) 0 xs) 288 ys i → set ys 287 0 ≡ bits_in_turn xs
unfolding bits_in_turn
bits_done = turn_done (λ a b. lt b a) 0

pub marks_done : (xs : List Float) (ys : List ℕ) (i : ℕ) → i ≤ 287 → 287 ≤ i → Done 0 (in_turn (λ a b. not (lt b a) && not (lt a b)) 1 xs) 288 ys i
    → set ys 287 1 ≡ marks_in_turn xs
unfolding marks_in_turn
marks_done = turn_done (λ a b. not (lt b a) && not (lt a b)) 1

-- ---- the two slicers

module _ (slicer : Slicer) (row : List Float) where
  pub sliced_bit_lt : (stream i : ℕ) → sliced_bit slicer row stream i < 2
  unfolding sliced_bit
  sliced_bit_lt = pair_lt (greater_by slicer) 0 row (lit< tt)

  pub mark_bit_lt : (stream i : ℕ) → mark_bit slicer row stream i < 2
  unfolding mark_bit
  mark_bit_lt = pair_lt (undecided slicer) 1 row (lit< tt)

  pub bits_turned : bits_in_turn (measures_of slicer row) ≡ tabulate 288 (λ (j : ℕ). sliced_bit slicer row (j % 2) (j / 2))
  unfolding bits_in_turn sliced_bit
  bits_turned = turned (λ a b. lt b a) 0 slicer row

  pub marks_turned : marks_in_turn (measures_of slicer row) ≡ tabulate 288 (λ (j : ℕ). mark_bit slicer row (j % 2) (j / 2))
  unfolding marks_in_turn mark_bit
  marks_turned = turned (λ a b. not (lt b a) && not (lt a b)) 1 slicer row

  pub sliced_length : (stream : ℕ) → length (sliced slicer row stream) ≡ 18
  unfolding sliced packed
  sliced_length stream = length_tabulate 18 (λ (k : ℕ). value (sliced_bit slicer row stream) (8 * k) 8)

  pub bit_sliced : (stream i : ℕ) → i < 144 → bit_at (sliced slicer row stream) i ≡ sliced_bit slicer row stream i
  unfolding sliced
  bit_sliced stream i h = bit_at_packed (sliced_bit slicer row stream) (sliced_bit_lt stream) 18 i (omega arith)

  pub bit_marked : (stream i : ℕ) → i < 144 → bit_at (marks slicer row stream) i ≡ mark_bit slicer row stream i
  unfolding marks
  bit_marked stream i h = bit_at_packed (mark_bit slicer row stream) (mark_bit_lt stream) 18 i (omega arith)
