-- The list that is kept without branches: each number is stored where the next one stands, and stays where it counts.
--     or_bits, bit_le            two tests as one bit
--     lane_is                    where the remainder of a place stands, as the code computes it
--     kept_more, kept_none       one more number; where none is taken
--     below                      how many are kept, and that each is below the bound
-- Assumes nothing.
use Rattle.std.proofs.Common.{◌≡◌, ℕ, zero, suc, ◌+◌, ◌*◌, ◌/◌, ◌%◌, ◌<◌, ◌≤◌, Bool, true, false, cond, ◌||◌, List, [], ◌∷◌, ◌++◌, length, get_or, take, set, sym, refl, ap, ◌∙◌, subst, le_refl, add-zero, add-one, arith, length-append, length-set, take-suc, get_or-set_same}
use native.Mathlib.Decide.{dec_lt}
use lib.Bits.{bit_or}
use lib.ListN.{get_or-append}
use lib.Seq.{take-set-le, get_or-append_seam}
use Rattle.lists.specs.Bits.{as_bit}
use Rattle.scan.specs.Sieve.{kept, lane_of}

-- ---- two tests as one bit

pub or_bits : (a b : Bool) → bit_or (as_bit a) (as_bit b) ≡ as_bit (a || b)
or_bits true true = refl
or_bits true false = refl
or_bits false true = refl
or_bits false false = refl

pub bit_le : (t : Bool) → as_bit t ≤ 1
bit_le true = omega arith
bit_le false = omega arith

-- ---- one more place

pub lane_is : (o k : ℕ) → k < 8 → 8 * o + 4 * (k % 2) + k / 2 ≡ lane_of (8 * o + k)
lane_is o k h =
    let a : (8 * o + k) / 8 ≡ o = omega arith in
    let b : (8 * o + k) % 8 ≡ k = omega arith in
    rw (a, b)

-- stored where the next that counts stands
module _ (f : ℕ → Bool) (xs : List ℕ) (count n : ℕ) where
  go : (t : Bool) → f n ≡ t → count < length xs → take count xs ≡ kept f n → take (count + as_bit t) (set xs count n) ≡ kept f (suc n)
  unfolding kept
  go true q h e =
      let s : count + 1 ≡ suc count = add-one count in
      rw (q, s)
      (take-suc (set xs count n) count 0 (rw (length-set xs count n) h)
      ∙ rw (take-set-le count xs count n (le_refl count), get_or-set_same xs count n 0 h, e))
  go false q h e =
      let s : count + 0 ≡ count = add-zero count in
      rw (q, s) (take-set-le count xs count n (le_refl count) ∙ e)

  pub kept_more : {b : ℕ} → b ≡ as_bit (f n) → count < length xs → take count xs ≡ kept f n → take (count + b) (set xs count n) ≡ kept f (n + 1)
  kept_more g h e = rw (g, add-one n) (go (f n) refl h e)

pub kept_none : (f : ℕ → Bool) (n : ℕ) → ((k : ℕ) → k < n → f k ≡ false) → kept f n ≡ []
unfolding kept
kept_none f zero each = refl
kept_none f (suc n) each = rw (each n (omega arith)) (kept_none f n (λ k h. each k (omega arith)))

-- ---- all of them

pub record Below (ks : List ℕ) (n : ℕ) : Type 0 where
  pub few : length ks ≤ n
  pub low : (q : ℕ) → q < length ks → get_or ks q 0 < n

one_more : (ks : List ℕ) (n : ℕ) → Below ks n → Below (ks ++ (n ∷ [])) (suc n)
one_more ks n b =
    let l : length (ks ++ (n ∷ [])) ≡ length ks + 1 = length-append ks (n ∷ []) in
    record { few = omega (arith, l, b.few); low = λ q h. go q (dec_lt q (length ks)) (omega (arith, l)) }
  where
    go : (q : ℕ) → Dec (q < length ks) → q < length ks + 1 → get_or (ks ++ (n ∷ [])) q 0 < suc n
    go q (yes h) g = subst (λ (x : ℕ). x < suc n) (sym (get_or-append ks (n ∷ []) 0 q h)) (omega (arith, b.low q h))
    go q (no h) g =
        let e : q ≡ length ks = omega arith in
        subst (λ (x : ℕ). x < suc n) (sym (ap (λ (i : ℕ). get_or (ks ++ (n ∷ [])) i 0) e ∙ get_or-append_seam ks n [] 0)) (omega arith)

pub below : (t : ℕ → Bool) (n : ℕ) → Below (kept t n) n
unfolding kept
below t zero = record { few = omega arith; low = λ q h. absurd (omega arith) }
below t (suc n) = go (t n) (below t n)
  where
    go : (b : Bool) → Below (kept t n) n → Below (cond b (kept t n ++ (n ∷ [])) (kept t n)) (suc n)
    go true b = one_more (kept t n) n b
    go false b = record { few = omega (arith, b.few); low = λ q h. omega (arith, b.low q h) }
