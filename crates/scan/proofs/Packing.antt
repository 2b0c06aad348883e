-- A byte of a lane, bit by bit.
--     value_more   one bit more of a byte
--     bit_more     the same of a byte of a lane
--     lane_byte    byte k of a lane
--     first_byte_law   the first byte of the message at a bit of a lane
--     lane_done, byte_done    the answers where nothing is refused
-- Assumes nothing.
use Rattle.std.proofs.Common.{◌≡◌, ℕ, zero, suc, ◌+◌, ◌*◌, ◌%◌, ◌<◌, ◌≤◌, List, length, get_or, sym, ap, ◌∙◌, mod-eq_of_lt, add-one, arith, eq-eqb, le-leb}
use lib.Bits.{bit_or, or_shifted}
use Rattle.lists.specs.Told.{done}
use Rattle.lists.specs.Bits.{bit_at, value, packed}
use Rattle.lists.proofs.Table.{get_d_tabulate}
use Rattle.lists.proofs.Bits.{value_lt, value_same, bit_at_packed}
use Rattle.streams.specs.Streams.{message_at}
use Rattle.scan.specs.Lanes.{lane_bit, lane_bytes, lane_into, byte_from, first_byte}

-- the first bits of a byte, and the next, as the code takes it
module _ (f : ℕ → ℕ) (bit : (i : ℕ) → f i < 2) (j : ℕ) where
  low : (m : ℕ) → m < 8 → value f j m < 128
  low zero h = omega (arith, value_lt f bit j 0)
  low (suc zero) h = omega (arith, value_lt f bit j 1)
  low (suc (suc zero)) h = omega (arith, value_lt f bit j 2)
  low (suc (suc (suc zero))) h = omega (arith, value_lt f bit j 3)
  low (suc (suc (suc (suc zero)))) h = omega (arith, value_lt f bit j 4)
  low (suc (suc (suc (suc (suc zero))))) h = omega (arith, value_lt f bit j 5)
  low (suc (suc (suc (suc (suc (suc zero)))))) h = omega (arith, value_lt f bit j 6)
  low (suc (suc (suc (suc (suc (suc (suc zero))))))) h = omega (arith, value_lt f bit j 7)
  low (suc (suc (suc (suc (suc (suc (suc (suc m)))))))) h = omega arith

  pub value_more : (m b : ℕ) {x : ℕ} → m < 8 → b ≡ value f j m → x ≡ f (j + m) → bit_or (b * 2 % 256) x ≡ value f j (m + 1)
  unfolding value
  value_more m b h e g =
      let y = f (j + m) in
      let l : b * 2 < 256 = omega (arith, e, low m h) in
      let o : bit_or (b * 2) y ≡ b * 2 + y = or_shifted b 1 y (bit (j + m)) in
      rw (g, mod-eq_of_lt l, add-one m) (o ∙ ap (λ (x : ℕ). x * 2 + y) e)

module _ (bits : List ℕ) (t : ℕ) where
  bit_lt : (i : ℕ) → lane_bit bits t i < 2
  unfolding lane_bit
  bit_lt i = omega arith

  pub bit_more : (m b : ℕ) {x : ℕ} → m < 8 → b ≡ value (lane_bit bits t) 0 m → x ≡ get_or bits (t + 8 * m) 0 % 2
      → bit_or (b * 2 % 256) x ≡ value (lane_bit bits t) 0 (m + 1)
  unfolding lane_bit
  bit_more m b h e g =
      let z : 0 + m ≡ m = omega arith in
      value_more (lane_bit bits t) bit_lt 0 m b h e (g ∙ ap (lane_bit bits t) (sym z))

  -- eight bits of a lane from bit i on
  pub byte_later : (i : ℕ) → byte_from bits (8 * i + t) ≡ value (lane_bit bits t) i 8
  unfolding byte_from lane_bit
  byte_later i =
      value_same (lane_bit bits (8 * i + t)) (lane_bit bits t) 0 i 8
      (λ m l.
      let a : 8 * i + t + 8 * (0 + m) ≡ t + 8 * (i + m) = omega arith in
      rw a)

  pub lane_byte : (k : ℕ) → byte_from bits (64 * k + t) ≡ value (lane_bit bits t) (8 * k) 8
  lane_byte k =
      let a : 64 * k + t ≡ 8 * (8 * k) + t = omega arith in
      rw a (byte_later (8 * k))

  pub first_byte_law : (n i : ℕ) → 0 < n → i + 8 ≤ 144 → byte_from bits (8 * i + t) ≡ get_or (message_at (lane_bytes bits t) n i) 0 0
  unfolding message_at packed lane_bytes
  first_byte_law n i h l =
      byte_later i
      ∙ sym (
      get_d_tabulate n (λ (k : ℕ). value (λ (j : ℕ). bit_at (packed 18 (lane_bit bits t)) (i + j)) (8 * k) 8) 0 0 h
      ∙ value_same (λ (j : ℕ). bit_at (packed 18 (lane_bit bits t)) (i + j)) (lane_bit bits t) 0 i 8
      (λ m q.
      let z : 0 + m ≡ m = omega arith in
      rw z (bit_at_packed (lane_bit bits t) bit_lt 18 (i + m) (omega arith)))
      )

pub lane_done : (bits : List ℕ) (t : ℕ) (out : List ℕ) → length bits ≡ 1152 → length out ≡ 18 → t ≤ 7 → lane_into bits t out ≡ (0, lane_bytes bits t)
unfolding lane_into
lane_done bits t out a b c = simp (eq-eqb _ _ a, eq-eqb _ _ b, le-leb _ _ c)

pub byte_done : (bits : List ℕ) (p : ℕ) → length bits ≡ 1152 → p ≤ 1095 → first_byte bits p ≡ done (byte_from bits p)
unfolding first_byte
byte_done bits p a b = simp (eq-eqb _ _ a, le-leb _ _ b)
