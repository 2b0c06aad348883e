-- Laws of a message in a part of a stream.
--     same_packed      equal bits make equal bytes
--     message_part     in the part that starts with the byte of its first bit the message is the same
--     part_done        the answer
-- Assumes nothing.
use mathlib.Core.Path.{◌≡◌, refl, sym, ap, ◌∙◌}
use mathlib.Core.List.{List}
use mathlib.Core.Bool.{Bool, true, false, cond}
use Prim.Native.Nat.{ℕ, ◌+◌, ◌-◌, ◌*◌, ◌/◌, ◌%◌, ◌<◌, ◌≤◌}
use native.Mathlib.Omega.{arith}
use borrow.Author.Tests.{eq-eqb, eqb-true, le-leb, leb-true}
use lib.Dec.{eqb, leb}
use lib.ListN.{length, take, drop}
use lib.Seq.{get_or-take, get_or-drop}
use Rattle.lists.specs.Bits.{bit_at, value, packed}
use Rattle.lists.proofs.Table.{tabulate_is, length_tabulate, get_d_tabulate}
use Rattle.lists.proofs.Bits.{value_same}
use Rattle.lists.specs.Told.{done, tell}
use Rattle.parts.specs.Part.{part_size, size_at}
use Rattle.streams.specs.Streams.{message_at, sized_number, part_number}
use Rattle.streams.specs.Messages.{part_message}

-- a bit of a part
bit_part : (s : List ℕ) (a m j : ℕ) → j < 8 * m → bit_at (take m (drop a s)) j ≡ bit_at s (8 * a + j)
unfolding bit_at
bit_part s a m j h =
    let q : (8 * a + j) / 8 ≡ a + j / 8 = omega arith in
    let r : (8 * a + j) % 8 ≡ j % 8 = omega arith in
    let l : j / 8 < m = omega arith in
    rw (get_or-take, get_or-drop, q, r)

pub same_packed : (n : ℕ) (f g : ℕ → ℕ) → ((i : ℕ) → i < 8 * n → f i ≡ g i) → packed n f ≡ packed n g
unfolding packed
same_packed n f g h =
    tabulate_is 0 (λ (k : ℕ). value g (8 * k) 8) n _ (length_tabulate n _)
    (λ k l. get_d_tabulate n (λ (i : ℕ). value f (8 * i) 8) k 0 l ∙ value_same f g (8 * k) (8 * k) 8 (λ i m. h (8 * k + i) (omega arith)))

pub message_part : (s : List ℕ) (n m bit : ℕ) → bit % 8 + 8 * n ≤ 8 * m → message_at (take m (drop (bit / 8) s)) n (bit % 8) ≡ message_at s n bit
unfolding message_at
message_part s n m bit h =
    same_packed n _ _
    (λ j l. bit_part s (bit / 8) m (bit % 8 + j) (omega arith) ∙ ap (bit_at s) (place j))
  where
    place : (j : ℕ) → 8 * (bit / 8) + (bit % 8 + j) ≡ bit + j
    place j = omega arith

-- a part of `part_size` bytes is enough
pub enough : (n bit : ℕ) → bit % 8 + 8 * n ≤ 8 * part_size n bit
unfolding part_size
enough n bit = go (eqb (bit % 8) 0) refl
  where
    go : (b : Bool) → eqb (bit % 8) 0 ≡ b → bit % 8 + 8 * n ≤ 8 * cond b n (n + 1)
    go true e = omega (arith, eqb-true (bit % 8) 0 e)
    go false e = omega arith

-- ---- which calls are taken

pub record PartTaken (n : ℕ) (part : List ℕ) (bit : ℕ) : Type 0 where
  pub size : length part ≡ part_size n bit
  pub low : bit ≤ 144 - 8 * n

module _ (n : ℕ) (part : List ℕ) (bit : ℕ) where
  tested : (t u : Bool) → eqb (length part) (part_size n bit) ≡ t → leb bit (144 - 8 * n) ≡ u
      → sized_number (tell (cond u 0 7) (part_size n bit)) part ≡ 0 → PartTaken n part bit
  tested true true a b e = record { size = eqb-true _ _ a; low = leb-true _ _ b }
  tested false true a b e =
      let z : ◌≡◌ {A = ℕ} 2 0 = rw a at e in
      absurd (omega arith)
  tested t false a b e = absurd (omega arith)

  pub part_opened : 0 ≡ part_number n part bit → PartTaken n part bit
  unfolding part_number size_at
  part_opened e = tested (eqb (length part) (part_size n bit)) (leb bit (144 - 8 * n)) refl refl (sym e)

  pub part_done : length part ≡ part_size n bit → bit ≤ 144 - 8 * n → part_message n part bit ≡ done (message_at part n (bit % 8))
  unfolding part_message part_number size_at
  part_done a b = simp (eq-eqb _ _ a, le-leb _ _ b)

pub small : (n bit : ℕ) → part_size n bit ≤ n + 1
unfolding part_size
small n bit = go (eqb (bit % 8) 0)
  where
    go : (b : Bool) → cond b n (n + 1) ≤ n + 1
    go true = omega arith
    go false = omega arith

-- what a call at a part stands on
pub ruleset parting = (part_opened, enough, small)
