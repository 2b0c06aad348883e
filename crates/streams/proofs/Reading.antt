-- Laws of the bits of a stream from an offset on.
--     message_length_law, message_bit    n bytes, of which bit j is bit offset + j of the stream
--     message_value                  a run of its bits
--     message_head                   its first byte
--     stream_done, opened            a call is taken exactly when the stream has 18 bytes and the message ends within it
--     extracted_done, crc_done       the answers
-- Assumes nothing.
use mathlib.Core.Path.{◌≡◌, refl, sym, ap, ◌∙◌}
use mathlib.Core.List.{List}
use mathlib.Core.Bool.{Bool, true, false, cond}
use Prim.Native.Nat.{ℕ, zero, suc, ◌+◌, ◌-◌, ◌*◌, ◌<◌, ◌≤◌}
use native.Mathlib.Nat.{add-zero}
use native.Mathlib.Omega.{arith}
use borrow.Author.Tests.{eqb-true, leb-true, eq-eqb, le-leb}
use lib.Dec.{eqb, leb}
use lib.ListN.{length, get_or}
use Rattle.lists.specs.Bits.{bit_at, value, packed}
use Rattle.lists.specs.Told.{done}
use Rattle.lists.proofs.Table.{length_tabulate, get_d_tabulate}
use Rattle.lists.proofs.Bits.{bit_at_lt, bit_at_packed, value_later}
use Rattle.annex10.specs.Remainder.{remainder}
use Rattle.streams.specs.Streams.{message_at, stream_number}
use Rattle.streams.specs.Messages.{extracted}
use Rattle.streams.specs.Remainders.{crc_at}

module _ (bytes : List ℕ) (n offset : ℕ) where
  pub message_length_law : length (message_at bytes n offset) ≡ n
  unfolding message_at packed
  message_length_law = length_tabulate n (λ (k : ℕ). value (λ (j : ℕ). bit_at bytes (offset + j)) (8 * k) 8)

  pub message_bit : (j : ℕ) → j < 8 * n → bit_at (message_at bytes n offset) j ≡ bit_at bytes (offset + j)
  unfolding message_at
  message_bit j h = bit_at_packed (λ (i : ℕ). bit_at bytes (offset + i)) (λ i. bit_at_lt bytes (offset + i) refl) n j h

  pub message_value : (j m : ℕ) → j + m ≤ 8 * n → value (bit_at (message_at bytes n offset)) j m ≡ value (bit_at bytes) (offset + j) m
  unfolding value
  message_value j zero h = refl
  message_value j (suc m) h =
      let a : offset + (j + m) ≡ offset + j + m = omega arith in
      rw (message_value j m (omega arith), message_bit (j + m) (omega arith), a)

  pub message_head : 0 < n → get_or (message_at bytes n offset) 0 0 ≡ value (bit_at bytes) offset 8
  unfolding message_at packed
  message_head h =
      get_d_tabulate n (λ (k : ℕ). value (λ (j : ℕ). bit_at bytes (offset + j)) (8 * k) 8) 0 0 h
      ∙ value_later (bit_at bytes) offset 0 8
      ∙ ap (λ (o : ℕ). value (bit_at bytes) o 8) (add-zero offset)

-- ---- which calls are taken

pub record Taken (n : ℕ) (bytes : List ℕ) (offset : ℕ) : Type 0 where
  pub size : length bytes ≡ 18
  pub low : offset ≤ 144 - 8 * n

module _ (n : ℕ) (bytes : List ℕ) (offset : ℕ) where
  pub stream_done : length bytes ≡ 18 → offset ≤ 144 - 8 * n → stream_number n bytes offset ≡ 0
  unfolding stream_number
  stream_done a b = simp (eq-eqb _ _ a, le-leb _ _ b)

  tested : (t u : Bool) → eqb (length bytes) 18 ≡ t → leb offset (144 - 8 * n) ≡ u → ◌≡◌ {A = ℕ} (cond t (cond u 0 7) 2) 0 → Taken n bytes offset
  tested true true a b e = record { size = eqb-true _ _ a; low = leb-true _ _ b }
  tested true false a b e = absurd (omega arith)
  tested false u a b e = absurd (omega arith)

  pub opened : 0 ≡ stream_number n bytes offset → Taken n bytes offset
  unfolding stream_number
  opened e = tested (eqb (length bytes) 18) (leb offset (144 - 8 * n)) refl refl (sym e)

-- ---- the answers

module _ (n : ℕ) (bytes : List ℕ) (offset : ℕ) where
  pub extracted_done : length bytes ≡ 18 → offset ≤ 144 - 8 * n → extracted n bytes offset ≡ done (message_at bytes n offset)
  unfolding extracted
  extracted_done a b = rw (stream_done n bytes offset a b)

  pub crc_done : length bytes ≡ 18 → offset ≤ 144 - 8 * n → crc_at n bytes offset ≡ done (remainder (message_at bytes n offset))
  unfolding crc_at
  crc_done a b = rw (stream_done n bytes offset a b)
