-- Numbers and floats by their bytes.
--     word_is, long_is     the number of four bytes, and of eight
--     float_is             the float of four bytes of a row
-- Assumes nothing.
use mathlib.Core.Path.{◌≡◌, refl, sym, ap, ◌∙◌}
use mathlib.Core.List.{List, []}
use Prim.Native.Nat.{ℕ, zero, suc, ◌+◌, ◌*◌, ◌<◌}
use native.Mathlib.Omega.{arith}
use lib.Ieee.{Float, binary32, of_bits}
use lib.ListN.{length, get_or, take, drop}
use lib.Seq.{drop-drop}
use Rattle.std.specs.Int.{w32, w64, from_le_bytes}
use Rattle.std.specs.Simd.{first_chunks}
use Rattle.lists.specs.From.{from, tabulate}
use Rattle.lists.proofs.Table.{tabulate_is}
use Rattle.words.specs.Words.{little_endian, float_at}

-- bytes are their elements
whole : (n : ℕ) (b : List ℕ) → length b ≡ n → tabulate n (λ (k : ℕ). get_or b k 0) ≡ b
whole n b h = sym (tabulate_is 0 (λ (k : ℕ). get_or b k 0) n b h (λ k i. refl))

pub word_is : (b : List ℕ) → length b ≡ 4 → from_le_bytes w32 b ≡ little_endian b
unfolding tabulate from little_endian
word_is b h =
    let e : from_le_bytes w32 b ≡ little_endian (tabulate 4 (λ (k : ℕ). get_or b k 0)) = omega arith in
    e ∙ ap little_endian (whole 4 b h)

pub long_is : (b : List ℕ) → length b ≡ 8 → from_le_bytes w64 b ≡ little_endian b
unfolding tabulate from little_endian
long_is b h =
    let e : from_le_bytes w64 b ≡ little_endian (tabulate 8 (λ (k : ℕ). get_or b k 0)) = omega arith in
    e ∙ ap little_endian (whole 8 b h)

-- four bytes of a row
word_at : (b : List ℕ) (n k : ℕ) → k < n → get_or (first_chunks 4 n b) k [] ≡ take 4 (drop (4 * k) b)
word_at b zero k h = absurd (omega arith)
word_at b (suc n) zero h = refl
word_at b (suc n) (suc k) h =
    let e : 4 + 4 * k ≡ 4 * suc k = omega arith in
    word_at (drop 4 b) n k (omega arith) ∙ ap (take 4) (drop-drop (4 * k) 4 b ∙ ap (λ (j : ℕ). drop j b) e)

pub float_is : (b : List ℕ) (n k : ℕ) {words : List (List ℕ)} {w : ℕ} {x : Float} → words ≡ first_chunks 4 n b → k < n
    → w ≡ little_endian (get_or words k []) → x ≡ of_bits binary32 w → x ≡ float_at b k
unfolding float_at
float_is b n k a h e d = d ∙ rw (e, a, word_at b n k h)
