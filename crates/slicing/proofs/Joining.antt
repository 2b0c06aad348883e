-- Bits joined to bytes.
--     apart_more                a turn of the loop that puts one stream after the other
--     bytes_made                what the four calls made
--     bytes_are                 joined three times, the bits of two streams are their bytes
--     streams_are, marks_are    those of a slicer, and of its marks
-- Assumes nothing.
use mathlib.Core.Path.{◌≡◌, sym, ap, ◌∙◌}
use mathlib.Core.List.{List, ◌++◌}
use Prim.Native.Nat.{ℕ, ◌+◌, ◌-◌, ◌*◌, ◌/◌, ◌%◌, ◌^◌, ◌<◌}
use native.Mathlib.Nat.{mod-eq_of_lt}
use native.Mathlib.Decide.{ℕ_discrete}
use native.Mathlib.Omega.{arith}
use lib.Bits.{bit_or, or_shifted}
use lib.ListN.{length, length-append, get_or, set, get_or-append}
use lib.Seq.{get_or-append-add}
use lib.Ieee.{Float}
use Rattle.lists.specs.From.{tabulate}
use Rattle.lists.specs.Bits.{value, packed}
use Rattle.lists.proofs.Table.{Where, where_more, length_tabulate, get_d_tabulate, tabulate_is}
use Rattle.lists.proofs.Bits.{value_lt, value_split, value_same}
use Rattle.place.specs.declared.Slicer.{Slicer}
use Rattle.slicing.specs.Slices.{sliced_bit, mark_bit, sliced, marks, streams_of, marks_of}
use Rattle.slicing.specs.Inner.{measures_of, bits_in_turn, marks_in_turn, apart_of, joined, bytes_of}
use Rattle.slicing.proofs.Slicing.{sliced_bit_lt, mark_bit_lt, bits_turned, marks_turned}

-- two stores, one in each stream
pub apart_more : (bits xs : List ℕ) (i : ℕ) → i < 144 → Where 0 (λ (j : ℕ). get_or bits (2 * (j % 144) + j / 144) 0) 288 xs (λ (j : ℕ). j % 144 < i)
    → Where 0 (λ (j : ℕ). get_or bits (2 * (j % 144) + j / 144) 0) 288 (set (set xs i (get_or bits (2 * i) 0)) (144 + i) (get_or bits (2 * i + 1) 0)) (λ (j : ℕ). j % 144 < i + 1)
apart_more bits xs i h r =
    let f : ℕ → ℕ = λ (j : ℕ). get_or bits (2 * (j % 144) + j / 144) 0 in
    let between : ℕ → Type 0 = λ (j : ℕ). (j ≡ i → ⊥) → j % 144 < i in
    let a : 2 * (i % 144) + i / 144 ≡ 2 * i = omega arith in
    let b : 2 * ((144 + i) % 144) + (144 + i) / 144 ≡ 2 * i + 1 = omega arith in
    where_more 0 f 288 (set xs i (get_or bits (2 * i) 0)) between (λ (j : ℕ). j % 144 < i + 1) (144 + i) (get_or bits (2 * i + 1) 0) (omega arith) (rw b)
    (λ k l q other one. omega arith)
    (where_more 0 f 288 xs (λ (j : ℕ). j % 144 < i) between i (get_or bits (2 * i) 0) (omega arith) (rw a) (λ k l m other. m other) r)

-- what the four calls made
pub bytes_made : (n : ℕ) (bits : List ℕ) {a p q r : List ℕ} → n ≡ 36 → a ≡ apart_of bits → p ≡ joined 144 1 a → q ≡ joined 72 2 p → r ≡ joined n 4 q
    → r ≡ bytes_of bits
unfolding bytes_of
bytes_made n bits l a p q r = r ∙ rw (l, q, p, a)

-- tables that agree at every place
same : (n : ℕ) (f g : ℕ → ℕ) → ((k : ℕ) → k < n → f k ≡ g k) → tabulate n f ≡ tabulate n g
same n f g each = tabulate_is 0 g n (tabulate n f) (length_tabulate n f) (λ k h. get_d_tabulate n f k 0 h ∙ each k h)

module _ (f : ℕ → ℕ) (bit : (i : ℕ) → f i < 2) where
  -- two numbers side by side are one of twice as many bits
  value_joined : (j w : ℕ) {a b : ℕ} → value f j w * 2 ^ w < 256 → a ≡ value f j w → b ≡ value f (j + w) w
      → bit_or (a * 2 ^ w % 256) b ≡ value f j (w + w)
  value_joined j w m e g =
      rw (e, g, mod-eq_of_lt m, or_shifted (value f j w) w (value f (j + w) w) (value_lt f bit (j + w) w)) (sym (value_split f j w w))

  value_one : (j : ℕ) → f j ≡ value f j 1
  unfolding value
  value_one j =
      let e : j + 0 ≡ j = omega arith in
      rw e (omega arith)

  pairs : joined 144 1 (tabulate 288 f) ≡ tabulate 144 (λ (i : ℕ). value f (2 * i) 2)
  unfolding joined
  pairs =
      same 144 (λ (i : ℕ). bit_or (get_or (tabulate 288 f) (2 * i) 0 * 2 ^ 1 % 256) (get_or (tabulate 288 f) (2 * i + 1) 0)) (λ (i : ℕ). value f (2 * i) 2)
      (λ i h. value_joined (2 * i) 1 (omega (arith, value_lt f bit (2 * i) 1))
      (get_d_tabulate 288 f (2 * i) 0 (omega arith) ∙ value_one (2 * i))
      (get_d_tabulate 288 f (2 * i + 1) 0 (omega arith) ∙ value_one (2 * i + 1)))

  fours : joined 72 2 (tabulate 144 (λ (i : ℕ). value f (2 * i) 2)) ≡ tabulate 72 (λ (i : ℕ). value f (4 * i) 4)
  unfolding joined
  fours =
      let g : ℕ → ℕ = λ (i : ℕ). value f (2 * i) 2 in
      same 72 (λ (i : ℕ). bit_or (get_or (tabulate 144 g) (2 * i) 0 * 2 ^ 2 % 256) (get_or (tabulate 144 g) (2 * i + 1) 0)) (λ (i : ℕ). value f (4 * i) 4)
      (λ i h.
      let a : 2 * (2 * i) ≡ 4 * i = omega arith in
      let b : 2 * (2 * i + 1) ≡ 4 * i + 2 = omega arith in
      value_joined (4 * i) 2 (omega (arith, value_lt f bit (4 * i) 2))
      (get_d_tabulate 144 g (2 * i) 0 (omega arith) ∙ rw a)
      (get_d_tabulate 144 g (2 * i + 1) 0 (omega arith) ∙ rw b))

  bytes : joined 36 4 (tabulate 72 (λ (i : ℕ). value f (4 * i) 4)) ≡ packed 36 f
  unfolding joined packed
  bytes =
      let g : ℕ → ℕ = λ (i : ℕ). value f (4 * i) 4 in
      same 36 (λ (i : ℕ). bit_or (get_or (tabulate 72 g) (2 * i) 0 * 2 ^ 4 % 256) (get_or (tabulate 72 g) (2 * i + 1) 0)) (λ (i : ℕ). value f (8 * i) 8)
      (λ i h.
      let a : 4 * (2 * i) ≡ 8 * i = omega arith in
      let b : 4 * (2 * i + 1) ≡ 8 * i + 4 = omega arith in
      value_joined (8 * i) 4 (omega (arith, value_lt f bit (8 * i) 4))
      (get_d_tabulate 72 g (2 * i) 0 (omega arith) ∙ rw a)
      (get_d_tabulate 72 g (2 * i + 1) 0 (omega arith) ∙ rw b))

-- the bits of two streams
module _ (f : ℕ → ℕ → ℕ) (bit : (stream i : ℕ) → f stream i < 2) where
  -- those of stream 0, then those of stream 1
  abbrev stream_bit : ℕ → ℕ
  stream_bit j = f (j / 144) (j % 144)

  apart : apart_of (tabulate 288 (λ (j : ℕ). f (j % 2) (j / 2))) ≡ tabulate 288 stream_bit
  unfolding apart_of
  apart =
      let g : ℕ → ℕ = λ (j : ℕ). f (j % 2) (j / 2) in
      same 288 (λ (j : ℕ). get_or (tabulate 288 g) (2 * (j % 144) + j / 144) 0) stream_bit
      (λ j l.
      let a : (2 * (j % 144) + j / 144) % 2 ≡ j / 144 = omega arith in
      let b : (2 * (j % 144) + j / 144) / 2 ≡ j % 144 = omega arith in
      get_d_tabulate 288 g (2 * (j % 144) + j / 144) 0 (omega arith) ∙ rw (a, b))

  stream_length : (s : ℕ) → length (packed 18 (f s)) ≡ 18
  unfolding packed
  stream_length s = length_tabulate 18 (λ (k : ℕ). value (f s) (8 * k) 8)

  -- byte n of a stream
  byte_is : (s n : ℕ) → n < 18 → get_or (packed 18 (f s)) n 0 ≡ value stream_bit (8 * (18 * s + n)) 8
  unfolding packed
  byte_is s n h =
      get_d_tabulate 18 (λ (k : ℕ). value (f s) (8 * k) 8) n 0 h
      ∙ value_same (f s) stream_bit (8 * n) (8 * (18 * s + n)) 8
      (λ m l.
      let a : 8 * (18 * s + n) + m ≡ 144 * s + (8 * n + m) = omega arith in
      let b : (144 * s + (8 * n + m)) / 144 ≡ s = omega arith in
      let c : (144 * s + (8 * n + m)) % 144 ≡ 8 * n + m = omega arith in
      rw (a, b, c))

  both : packed 36 stream_bit ≡ packed 18 (f 0) ++ packed 18 (f 1)
  unfolding packed
  both =
      let p = packed 18 (f 0) in
      let q = packed 18 (f 1) in
      let e = stream_length 0 in
      sym
      (tabulate_is 0 (λ (k : ℕ). value stream_bit (8 * k) 8) 36 (p ++ q) (rw (length-append, stream_length 0, stream_length 1))
      (λ k h. elim (ℕ_discrete (k / 18) 0) [
        | yes first ↦
            let a : 18 * 0 + k ≡ k = omega arith in
            get_or-append p q 0 k (rw e (omega arith)) ∙ (byte_is 0 k (omega arith) ∙ rw a)
        | no second ↦
            let a : 18 * 1 + (k - 18) ≡ k = omega arith in
            let b : k ≡ length p + (k - 18) = rw e (omega arith) in
            ap (λ (m : ℕ). get_or (p ++ q) m 0) b ∙ (get_or-append-add p q (k - 18) 0 ∙ (byte_is 1 (k - 18) (omega arith) ∙ rw a))
      ]))

  bytes_are : {bits p : List ℕ} → bits ≡ tabulate 288 (λ (j : ℕ). f (j % 2) (j / 2)) → p ≡ bytes_of bits → p ≡ packed 18 (f 0) ++ packed 18 (f 1)
  unfolding bytes_of
  bytes_are e g =
      let l : (j : ℕ) → stream_bit j < 2 = λ j. bit (j / 144) (j % 144) in
      g ∙ rw (e, apart, pairs stream_bit l, fours stream_bit l, bytes stream_bit l, both)

-- of a slicer
module _ (slicer : Slicer) (row : List Float) {m : List Float} {bits p : List ℕ} (e : m ≡ measures_of slicer row) where
  pub streams_are : bits ≡ bits_in_turn m → p ≡ bytes_of bits → p ≡ streams_of slicer row
  unfolding streams_of sliced
  streams_are f g = bytes_are (sliced_bit slicer row) (sliced_bit_lt slicer row) (f ∙ rw e (bits_turned slicer row)) g

  pub marks_are : bits ≡ marks_in_turn m → p ≡ bytes_of bits → p ≡ marks_of slicer row
  unfolding marks_of marks
  marks_are f g = bytes_are (mark_bit slicer row) (mark_bit_lt slicer row) (f ∙ rw e (marks_turned slicer row)) g
