-- The bits by starting sample are those of the places.
--     start_bit_law     bit i of the stream of a clock phase and a symbol offset starts with sample 8 i + 4 symbol + phase
--     bits_start    the message at a place is the one that starts with its sample
--     place_start   the sample that place k starts with
--     lane_lt       its lane is one of those that are scanned
--     bits_number, crc_start     its message, and its remainder among those that are scanned: of n bytes, at bit offsets 1 to m
--     stream_lane, stream_number_law     the stream of a place is that of its lane: of any place, of place k
--     digits_of, digits_made     they are bits, one for each sample
--     reals_made, norms_made     what the calls of find_bits made
-- Assumes nothing.
use Rattle.std.proofs.Common.{◌≡◌, ℕ, ◌+◌, ◌*◌, ◌/◌, ◌%◌, ◌<◌, ◌≤◌, ltb, List, get_or, sym, ap, ◌∙◌, subst, mod-eq_of_lt, arith, lit<, le-ltb, lt-ltb}
use native.Mathlib.Decide.{ℕ_discrete}
use lib.ListN.{get_or-eq_default}
use lib.Ieee.{Float, lt, nan}
use Rattle.lists.specs.From.{tabulate}
use Rattle.lists.specs.Bits.{bit_at}
use Rattle.lists.proofs.Table.{length_tabulate, get_d_tabulate, tabulate_is}
use Rattle.annex10.specs.Remainder.{remainder}
use Rattle.place.specs.declared.Place.{Place}
use Rattle.place.specs.declared.Slicer.{Slicer}
use Rattle.place.specs.declared.Slicer.TheVariants.{Coherent, Noncoherent}
use Rattle.place.specs.All.{place_at}
use Rattle.place.specs.Step.{sample_start}
use Rattle.math.specs.declared.Complex.{Complex}
use Rattle.math.specs.Complex.{norm_of}
use Rattle.kernels.specs.Symbols.{complex_at, sum_from, sums_of, symbol_of}
use Rattle.kernels.proofs.Summing.{row_symbol, sum_stands}
use Rattle.slicing.specs.Slices.{greater_by, sliced_bit, sliced}
use Rattle.slicing.proofs.Slicing.{as_bit_lt, either, bit_sliced}
use Rattle.streams.specs.Streams.{message_at}
use Rattle.streams.proofs.Parting.{same_packed}
use Rattle.search.specs.Seen.{row, stream, bits_at}
use Rattle.scan.specs.Flat.{start_bit, bits_from, message_from, crc_in, crcs_in}
use Rattle.scan.specs.Sieve.{lane_of}
use Rattle.scan.specs.Lanes.{lane_bit, lane_bytes}
use Rattle.scan.specs.Inner.{reals_of, norms_of, bit_in, bits_of, Digits}

-- ---- sums by starting sample

module _ (s : List Float) (j : ℕ) where
  real_at : j < 1152 → get_or (reals_of (sums_of s)) j nan ≡ (sum_from s j 4).re
  unfolding reals_of complex_at
  real_at h = get_d_tabulate 1152 (λ (i : ℕ). get_or (sums_of s) (2 * i) nan) j nan h ∙ ap (λ (z : Complex). z.re) (sum_stands s j h)

  norm_at : j < 1152 → get_or (norms_of (sums_of s)) j nan ≡ norm_of (sum_from s j 4)
  unfolding norms_of
  norm_at h = get_d_tabulate 1152 (λ (i : ℕ). norm_of (complex_at (sums_of s) i)) j nan h ∙ ap norm_of (sum_stands s j h)

-- the row that a slicer compares
row_of : Slicer → List Float → List Float
row_of Coherent samples = reals_of (sums_of samples)
row_of Noncoherent samples = norms_of (sums_of samples)

-- a bit compares two sums
compared : (slicer : Slicer) (s : List Float) (p : ℕ) → p + 4 < 1152
    → lt (get_or (row_of slicer s) (p + 4) nan) (get_or (row_of slicer s) p nan) ≡ greater_by slicer (sum_from s p 4) (sum_from s (p + 4) 4)
unfolding row_of
compared Coherent s p h = rw (real_at s (p + 4) h, real_at s p (omega arith))
compared Noncoherent s p h = rw (norm_at s (p + 4) h, norm_at s p (omega arith))

bit_in_law : (slicer : Slicer) (s : List Float) (p : ℕ) → bit_in (row_of slicer s) p ≡ start_bit slicer s p
unfolding bit_in start_bit
bit_in_law slicer s p =
    elim (ℕ_discrete ((p + 4) / 1152) 0) [
      | yes inside ↦ rw (lt-ltb (p + 4) 1152 (omega arith), compared slicer s p (omega arith))
      | no outside ↦ rw (le-ltb (p + 4) 1152 (omega arith))
    ]

row_bits : (slicer : Slicer) (s : List Float) → bits_of (row_of slicer s) ≡ bits_from slicer s
unfolding bits_of bits_from
row_bits slicer s =
    tabulate_is 0 (start_bit slicer s) 1152 (tabulate 1152 (bit_in (row_of slicer s))) (length_tabulate 1152 (bit_in (row_of slicer s)))
    (λ k h. get_d_tabulate 1152 (bit_in (row_of slicer s)) k 0 h ∙ bit_in_law slicer s k)

bit_from : (slicer : Slicer) (s : List Float) (p : ℕ) → p < 1152 → get_or (bits_from slicer s) p 0 ≡ start_bit slicer s p
unfolding bits_from
bit_from slicer s p h = get_d_tabulate 1152 (start_bit slicer s) p 0 h

-- ---- bits

symbol_sum : (s : List Float) (k n : ℕ) {p : ℕ} → k < 4 → n < 288 → 4 * n + k ≡ p → complex_at (row s k) n ≡ sum_from s p 4
unfolding row symbol_of
symbol_sum s k n hk hn e = row_symbol s k n hk hn ∙ ap (λ (i : ℕ). sum_from s i 4) e

pub start_bit_law : (slicer : Slicer) (s : List Float) (k t i : ℕ) → k < 4 → t < 2 → i < 144
    → sliced_bit slicer (row s k) t i ≡ get_or (bits_from slicer s) (8 * i + 4 * t + k) 0
unfolding sliced_bit start_bit
start_bit_law slicer s k t i hk ht hi =
    let p = 8 * i + 4 * t + k in
    elim (ℕ_discrete (2 * i + t) 287) [
      | yes last ↦
          rw (le-ltb (2 * i + t + 1) 288 (omega arith)) (sym (bit_from slicer s p (omega arith) ∙ rw (le-ltb (p + 4) 1152 (omega arith))))
      | no inner ↦
          let a : complex_at (row s k) (2 * i + t) ≡ sum_from s p 4 = symbol_sum s k (2 * i + t) hk (omega arith) (omega arith) in
          let b : complex_at (row s k) (2 * i + t + 1) ≡ sum_from s (p + 4) 4 = symbol_sum s k (2 * i + t + 1) hk (omega arith) (omega arith) in
          rw (lt-ltb (2 * i + t + 1) 288 (omega arith), a, b)
          (sym (bit_from slicer s p (omega arith) ∙ rw (lt-ltb (p + 4) 1152 (omega arith))))
    ]

-- ---- messages

pub bits_start : (n : ℕ) (slicer : Slicer) (s : List Float) (p : Place) → p.phase < 4 → p.symbol < 2 → p.bit + 8 * n ≤ 144
    → bits_at n s slicer p ≡ message_from n (bits_from slicer s) (sample_start p)
unfolding bits_at message_at stream message_from
bits_start n slicer s p hk ht hb =
    same_packed n (λ (j : ℕ). bit_at (sliced slicer (row s p.phase) p.symbol) (p.bit + j)) (λ (j : ℕ). get_or (bits_from slicer s) (sample_start p + 8 * j) 0)
    (λ j h.
    let e : 8 * (p.bit + j) + 4 * p.symbol + p.phase ≡ sample_start p + 8 * j = omega arith in
    bit_sliced slicer (row s p.phase) p.symbol (p.bit + j) (omega arith)
    ∙ start_bit_law slicer s p.phase p.symbol (p.bit + j) hk ht (omega arith)
    ∙ ap (λ (i : ℕ). get_or (bits_from slicer s) i 0) e)

-- ---- places by their numbers

pub place_start : (k : ℕ) → 8 + lane_of k ≡ sample_start (place_at k)
unfolding place_at
place_start k =
    let q : k / 2 ≡ 4 * (k / 8) + k % 8 / 2 = omega arith in
    let p : k / 2 % 4 ≡ k % 8 / 2 = rw q (omega arith) in
    let s : k % 8 % 2 ≡ k % 2 = omega arith in
    rw (p, s) (omega arith)

pub lane_lt : (m k : ℕ) → k < 8 * m → lane_of k < 8 * m
lane_lt m k h = omega arith

phase_lt : (k : ℕ) → (place_at k).phase < 4
unfolding place_at
phase_lt k = omega arith

symbol_lt : (k : ℕ) → (place_at k).symbol < 2
unfolding place_at
symbol_lt k = omega arith

-- the messages of n bytes at bit offsets 1 to m end within the window
module _ (n m k : ℕ) (h : m + 8 * n < 144) (l : k < 8 * m) where
  ends : (place_at k).bit + 8 * n ≤ 144
  unfolding place_at
  ends = omega arith

  pub bits_number : (slicer : Slicer) (s : List Float) → bits_at n s slicer (place_at k) ≡ message_from n (bits_from slicer s) (8 + lane_of k)
  bits_number slicer s = bits_start n slicer s (place_at k) (phase_lt k) (symbol_lt k) ends ∙ ap (message_from n (bits_from slicer s)) (sym (place_start k))

  pub crc_start : (slicer : Slicer) (s : List Float) → get_or (crcs_in n (bits_from slicer s) (8 * m)) (lane_of k) 0 ≡ remainder (bits_at n s slicer (place_at k))
  unfolding crcs_in crc_in
  crc_start slicer s =
      get_d_tabulate (8 * m) (λ (i : ℕ). remainder (message_from n (bits_from slicer s) (8 + i))) (lane_of k) 0 (lane_lt m k l)
      ∙ ap remainder (sym (bits_number slicer s))

-- ---- they are bits

start_bit_lt : (slicer : Slicer) (s : List Float) (p : ℕ) → start_bit slicer s p < 2
unfolding start_bit
start_bit_lt slicer s p = either (ltb (p + 4) 1152) (as_bit_lt (greater_by slicer (sum_from s p 4) (sum_from s (p + 4) 4))) (lit< tt)

pub digits_of : (slicer : Slicer) (s : List Float) → Digits (bits_from slicer s)
unfolding bits_from
digits_of slicer s =
    let f = start_bit slicer s in
    record {
      size = length_tabulate 1152 f;
      each = λ i. elim (ℕ_discrete (i / 1152) 0) [
        | yes inside ↦ rw (get_d_tabulate 1152 f i 0 (omega arith)) (start_bit_lt slicer s i)
        | no outside ↦ rw (get_or-eq_default (tabulate 1152 f) 0 {n = i} (rw (length_tabulate 1152 f) (omega arith))) (lit< tt)
      ];
    }

pub digits_made : (slicer : Slicer) (s : List Float) {bits : List ℕ} → bits ≡ bits_from slicer s → Digits bits
digits_made slicer s e = subst Digits (sym e) (digits_of slicer s)

pub stream_lane : (slicer : Slicer) (s : List Float) (p : Place) → p.phase < 4 → p.symbol < 2
    → lane_bytes (bits_from slicer s) (4 * p.symbol + p.phase) ≡ stream s slicer p
unfolding lane_bytes lane_bit stream sliced
stream_lane slicer s p hk ht =
    let t = 4 * p.symbol + p.phase in
    same_packed 18 (λ (j : ℕ). get_or (bits_from slicer s) (t + 8 * j) 0 % 2) (sliced_bit slicer (row s p.phase) p.symbol)
    (λ j h.
    let e : t + 8 * j ≡ 8 * j + 4 * p.symbol + p.phase = omega arith in
    mod-eq_of_lt ((digits_of slicer s).each (t + 8 * j))
    ∙ ap (λ (i : ℕ). get_or (bits_from slicer s) i 0) e ∙ sym (start_bit_law slicer s p.phase p.symbol j hk ht h))

pub stream_number_law : (slicer : Slicer) (s : List Float) (k : ℕ) → lane_bytes (bits_from slicer s) (lane_of k % 8) ≡ stream s slicer (place_at k)
stream_number_law slicer s k =
    let e : lane_of k % 8 ≡ 4 * (place_at k).symbol + (place_at k).phase = omega (arith, place_start k, phase_lt k, symbol_lt k) in
    ap (lane_bytes (bits_from slicer s)) e ∙ stream_lane slicer s (place_at k) (phase_lt k) (symbol_lt k)

-- ---- made by the calls

pub reals_made : (s : List Float) {sums reals : List Float} {bits : List ℕ} → sums ≡ sums_of s → reals ≡ reals_of sums → bits ≡ bits_of reals → bits ≡ bits_from Coherent s
unfolding row_of
reals_made s e f g = g ∙ ap bits_of (f ∙ ap reals_of e) ∙ row_bits Coherent s

pub norms_made : (s : List Float) {sums norms : List Float} {bits : List ℕ} → sums ≡ sums_of s → norms ≡ norms_of sums → bits ≡ bits_of norms → bits ≡ bits_from Noncoherent s
unfolding row_of
norms_made s e f g = g ∙ ap bits_of (f ∙ ap norms_of e) ∙ row_bits Noncoherent s
