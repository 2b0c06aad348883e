-- Parts that are not refused: what number 0 says, the part, and its length.
-- Assumes nothing.
use mathlib.Core.Path.{◌≡◌, refl, ap, ◌∙◌}
use mathlib.Core.Bool.{Bool, true, false, cond}
use mathlib.Core.List.{List}
use Prim.Native.Nat.{ℕ, ◌+◌, ◌-◌, ◌*◌, ◌/◌, ◌%◌, ◌≤◌}
use native.Mathlib.Omega.{arith}
use lib.Dec.{eqb}
use lib.Ieee.{Float}
use lib.ListN.{length, take, drop, length-take, length-drop}
use borrow.Author.Tests.{eqb-true, eqb-false, eq-eqb}
use Rattle.std.proofs.lemmas.Grind.{common_steps}
use Rattle.place.specs.declared.Place.{Place}
use Rattle.place.specs.declared.Slicer.{Slicer}
use Rattle.place.specs.declared.Slicer.TheVariants.{Coherent, Noncoherent}
use Rattle.place.specs.declared.location.Location.{Location}
use Rattle.place.specs.Agrees.{location_number}
use Rattle.parts.specs.Part.{symbols_at, samples_at, row_refusal, symbols_for, samples_for, streams_refusal, chosen, part_size, slicer_part}
use Rattle.place.proofs.Within.{Within, within_gives}
use Rattle.place.proofs.Agreeing.{located_gives}

-- the first n elements of what is left behind k of them
module _ {A : Type 0} (k n : ℕ) (xs : List A) where
  pub front_of_rest : take n (take (length xs - k) (drop k xs)) ≡ take n (drop k xs)
  front_of_rest = grind (arith, common_steps)

  pub front_long : k + n ≤ length xs → n ≡ length (take n (take (length xs - k) (drop k xs)))
  front_long h = grind (arith, common_steps)

pub record RowTaken (size n : ℕ) (xs : List Float) (l : Location) : Type 0 where
  pub long : length xs ≡ size
  pub place : Within n l.place

pub row_taken : (size n : ℕ) (xs : List Float) (l : Location) → row_refusal size n xs l ≡ 0 → RowTaken size n xs l
unfolding row_refusal
row_taken size n xs l = go (eqb (length xs) size) refl
  where
    go : (a : Bool) → eqb (length xs) size ≡ a → cond a (location_number n l) 2 ≡ 0 → RowTaken size n xs l
    go true e g = record { long = eqb-true _ _ e; place = within_gives n l.place (located_gives n l g).place }
    go false e g = absurd (omega arith)

-- a row of the right length, and a location that is not refused
pub row_is : (size n : ℕ) (xs : List Float) (l : Location) → length xs ≡ size → location_number n l ≡ 0 → row_refusal size n xs l ≡ 0
unfolding row_refusal
row_is size n xs l e h = rw (eq-eqb (length xs) size e) h

module _ (n : ℕ) (row : List Float) (l : Location) where
  pub symbols_done : row_refusal 576 n row l ≡ 0 → symbols_for n row l ≡ symbols_at n row l.place
  unfolding symbols_for
  symbols_done e = rw (eq-eqb _ 0 e)

  pub samples_done : row_refusal 2310 n row l ≡ 0 → samples_for n row l ≡ samples_at n row l.place
  unfolding samples_for
  samples_done e = rw (eq-eqb _ 0 e)

-- the part of a place from which a message ends within the window
module _ (n : ℕ) (xs : List Float) (p : Place) (h : n ≤ 18) (w : Within n p) where
  pub symbols_long : length xs ≡ 576 → length (symbols_at n xs p) ≡ 32 * n
  unfolding symbols_at
  symbols_long e = simp (length-take, length-drop) (omega arith)

  pub samples_long : length xs ≡ 2310 → length (samples_at n xs p) ≡ 128 * n
  unfolding samples_at
  samples_long e = simp (length-take, length-drop) (omega arith)

-- ---- streams

pub record StreamsTaken (n : ℕ) (coherent noncoherent : List ℕ) (l : Location) : Type 0 where
  pub first : length coherent ≡ 18
  pub second : length noncoherent ≡ 18
  pub place : Within n l.place

module _ (n : ℕ) (coherent noncoherent : List ℕ) (l : Location) where
  pub streams_taken : streams_refusal n coherent noncoherent l ≡ 0 → StreamsTaken n coherent noncoherent l
  unfolding streams_refusal
  streams_taken = go (eqb (length coherent) 18) (eqb (length noncoherent) 18) refl refl
    where
      go : (a b : Bool) → eqb (length coherent) 18 ≡ a → eqb (length noncoherent) 18 ≡ b → cond a (cond b (location_number n l) 2) 2 ≡ 0
          → StreamsTaken n coherent noncoherent l
      go true true e f h = record { first = eqb-true _ _ e; second = eqb-true _ _ f; place = within_gives n l.place (located_gives n l h).place }
      go true false e f h = absurd (omega arith)
      go false b e f h = absurd (omega arith)

  pub streams_is : length coherent ≡ 18 → length noncoherent ≡ 18 → location_number n l ≡ 0 → streams_refusal n coherent noncoherent l ≡ 0
  unfolding streams_refusal
  streams_is e f h = rw (eq-eqb (length coherent) 18 e, eq-eqb (length noncoherent) 18 f) h

-- a message that ends within the window ends within its stream
pub offset_of_law : (n : ℕ) (p : Place) → Within n p → p.bit ≤ 144 - 8 * n
offset_of_law n p w = let h = w.start in omega arith

-- the part lies within the 18 bytes
pub part_fits : (n bit : ℕ) → n ≤ 18 → bit ≤ 144 - 8 * n → bit / 8 + part_size n bit ≤ 18
unfolding part_size
part_fits n bit l h = go (eqb (bit % 8) 0) refl
  where
    go : (b : Bool) → eqb (bit % 8) 0 ≡ b → bit / 8 + cond b n (n + 1) ≤ 18
    go true e = omega arith
    go false e = omega (arith, eqb-false (bit % 8) 0 e)

module _ (n : ℕ) (coherent noncoherent : List ℕ) (l : Location) where
  pub part_done : streams_refusal n coherent noncoherent l ≡ 0
      → slicer_part n coherent noncoherent l ≡ take (part_size n l.place.bit) (drop (l.place.bit / 8) (chosen l.slicer coherent noncoherent))
  unfolding slicer_part
  part_done e = rw (eq-eqb _ 0 e)

  chosen_long : (s : Slicer) → length coherent ≡ 18 → length noncoherent ≡ 18 → length (chosen s coherent noncoherent) ≡ 18
  chosen_long Coherent e f = e
  chosen_long Noncoherent e f = f

  -- the part lies within the stream
  pub part_room : n ≤ 18 → streams_refusal n coherent noncoherent l ≡ 0
      → l.place.bit / 8 + part_size n l.place.bit ≤ length (chosen l.slicer coherent noncoherent)
  part_room h e =
      let t = streams_taken n coherent noncoherent l e in
      let s = chosen_long l.slicer t.first t.second in
      let f = part_fits n l.place.bit h (offset_of_law n l.place t.place) in
      omega arith

  pub part_long : n ≤ 18 → streams_refusal n coherent noncoherent l ≡ 0 → length (slicer_part n coherent noncoherent l) ≡ part_size n l.place.bit
  part_long h e =
      let r = part_room h e in
      ap length (part_done e) ∙ simp (length-take, length-drop) (omega arith)
