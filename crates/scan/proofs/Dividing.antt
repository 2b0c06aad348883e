-- Laws of remainders that are divided byte by byte, in eight lanes.
--     byte_none, byte_more      a byte of a lane: before its first bit, and one bit more
--     crc_none, crc_more        a remainder: before the first byte, and one byte more
--     zeros_done                an array before its first store
--     Lanes                     eight numbers, of which the first t are those of g and the others still those of f
--     lanes_none, lanes_more, lanes_all     before the loop, a lane, and after all lanes
-- Assumes nothing.
use Rattle.std.proofs.Common.{◌≡◌, ℕ, zero, suc, ◌+◌, ◌*◌, ◌%◌, ◌<◌, ◌≤◌, List, [], ◌∷◌, ◌++◌, length, get_or, set, replicate, sym, refl, ap, ◌∙◌, lt_of_lt_of_le, zero-add, ne_of_lt, arith, length-set, get_or-set_other, get_or-set_same, below_none, below_more}
use lib.Bits.{bit_or}
use Rattle.lists.specs.From.{from, tabulate}
use Rattle.lists.specs.Bits.{value, packed}
use Rattle.lists.proofs.Table.{Done}
use Rattle.lists.proofs.Members.{from_append}
use Rattle.annex10.specs.Remainder.{remainder}
use Rattle.annex10.specs.Bytes.{bring_byte}
use Rattle.annex10.proofs.Shifts.{bring_more}
use Rattle.scan.specs.Flat.{message_from, crc_in}
use Rattle.scan.specs.Inner.{Digits, byte_in}
use Rattle.scan.proofs.Packing.{value_more}

-- ---- a lane

abbrev lane : List ℕ → ℕ → ℕ → ℕ
lane bits t k = get_or bits (8 + t + 8 * k) 0

pub byte_none : (i : ℕ) (bits : List ℕ) (t : ℕ) → byte_in i 0 bits t ≡ 0
unfolding byte_in value
byte_none i bits t = refl

pub byte_more : (i : ℕ) (bits : List ℕ) → Digits bits → (m t : ℕ) {b : ℕ} → m < 8 → b ≡ byte_in i m bits t
    → bit_or (b * 2 % 256) (get_or bits (64 * i + 8 * m + 8 + t) 0) ≡ byte_in i (m + 1) bits t
unfolding byte_in
byte_more i bits d m t {b} h e =
    let a : 64 * i + 8 * m + 8 + t ≡ 8 + t + 8 * (8 * i + m) = omega arith in
    value_more (lane bits t) (λ k. d.each (8 + t + 8 * k)) (8 * i) m b h e (ap (λ (k : ℕ). get_or bits k 0) a)

packed_more : (f : ℕ → ℕ) (n : ℕ) → packed (n + 1) f ≡ packed n f ++ (value f (8 * n) 8 ∷ [])
unfolding packed tabulate from
packed_more f n =
    let byte : ℕ → ℕ = λ (k : ℕ). value f (8 * k) 8 in
    from_append byte 0 n 1 ∙ ap (λ (k : ℕ). from byte 0 n ++ (byte k ∷ [])) (zero-add n)

pub crc_none : (bits : List ℕ) (t : ℕ) → crc_in 0 bits t ≡ 0
unfolding crc_in message_from packed tabulate from remainder
crc_none bits t = refl

pub crc_more : (i : ℕ) (bits : List ℕ) (t : ℕ) {crc b r : ℕ} → crc ≡ crc_in i bits t → b ≡ byte_in i 8 bits t → r ≡ bring_byte crc b
    → r ≡ crc_in (i + 1) bits t
unfolding crc_in message_from byte_in
crc_more i bits t {crc} {b} e g h =
    let f : ℕ → ℕ = lane bits t in
    h ∙ bring_more (packed i f) crc b e ∙ ap (λ (x : ℕ). remainder (packed i f ++ (x ∷ []))) g ∙ ap remainder (sym (packed_more f i))

-- ---- eight lanes

zeros_at : (n k : ℕ) → ◌≡◌ {A = ℕ} (get_or (replicate n 0) k 0) 0
zeros_at zero k = refl
zeros_at (suc n) zero = refl
zeros_at (suc n) (suc k) = zeros_at n k

pub zeros_done : (f : ℕ → ℕ) → ((k : ℕ) → f k ≡ 0) → Done 0 f 8 (replicate 8 0) 8
zeros_done f z = record { size = refl; each = λ k h. zeros_at 8 k ∙ sym (z k) }

pub record Lanes (f g : ℕ → ℕ) (xs : List ℕ) (t : ℕ) : Type 0 where
  pub size : length xs ≡ 8
  pub new : (k : ℕ) → k < t → get_or xs k 0 ≡ g k
  pub old : (k : ℕ) → t ≤ k → k < 8 → get_or xs k 0 ≡ f k

module _ (f g : ℕ → ℕ) (xs : List ℕ) where
  pub lanes_none : Done 0 f 8 xs 8 → Lanes f g xs 0
  lanes_none w = record { size = w.size; new = below_none (λ (k : ℕ). get_or xs k 0 ≡ g k); old = λ k l h. w.each k h }

  pub lanes_more : (t v : ℕ) → t < 8 → Lanes f g xs t → v ≡ g t → Lanes f g (set xs t v) (t + 1)
  lanes_more t v h w e =
      record {
        size = length-set xs t v ∙ w.size;
        new =
            below_more (λ (k : ℕ). get_or (set xs t v) k 0 ≡ g k) t
            (λ k l. get_or-set_other xs t k v 0 (ne_of_lt l) ∙ w.new k l)
            (get_or-set_same xs t v 0 (omega (arith, w.size)) ∙ e);
        old = λ k l q. get_or-set_other xs t k v 0 (λ z. omega arith) ∙ w.old k (omega arith) q;
      }

  pub lanes_all : (t : ℕ) → 8 ≤ t → Lanes f g xs t → Done 0 g 8 xs 8
  lanes_all t h w = record { size = w.size; each = λ k l. w.new k (lt_of_lt_of_le l h) }
