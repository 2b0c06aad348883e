-- Laws of the bits of a row.
--     bit_is, no_bit            a bit as the code stores it; the last four
--     done_at, done_of          what is stored, counted another way; of so many
--     Room, room_of             the lengths of the memories, one by one
--     scanned_done, both_done   the answer where nothing is refused: for one kind of message, for both
-- Assumes nothing.
use Rattle.std.proofs.Common.{◌≡◌, ◌∙◌, ℕ, ◌+◌, ◌<◌, ◌≤◌, Bool, true, false, ◌&&◌, eqb, List, [], ◌++◌, length, replicate, get_or, take, drop, ◌-◌, refl, subst, arith, le-ltb, lt-ltb, eq-eqb, eqb-true}
use lib.Ieee.{Float, lt, nan}
use mir.Val.{bool_byte}
use native.Mathlib.Decide.{dec_lt}
use borrow.Rule.Slice.PartMut.{put_mid}
use Rattle.std.proofs.lemmas.Grind.{common_steps}
use Rattle.lists.specs.From.{tabulate}
use Rattle.lists.specs.Bits.{as_bit}
use Rattle.lists.proofs.Table.{Done, tabulate_is}
use Rattle.lists.proofs.Test.{and_both}
use Rattle.kernels.specs.Symbols.{sums_of}
use Rattle.place.specs.declared.Slicer.TheVariants.{Coherent, Noncoherent}
use Rattle.scan.specs.Flat.{bits_from, crcs_in, room_for, scanned, scanned_both}
use Rattle.scan.specs.Inner.{bit_in}

-- a truth as a number
pub truth_is : (t : Bool) → bool_byte t ≡ as_bit t
truth_is true = refl
truth_is false = refl

pub bit_is : (row : List Float) (i : ℕ) {b : ℕ} → i < 1148 → b ≡ bool_byte (lt (get_or row (i + 4) nan) (get_or row i nan)) → b ≡ bit_in row i
unfolding bit_in
bit_is row i h e = rw (lt-ltb (i + 4) 1152 (omega arith)) (e ∙ truth_is _)

pub no_bit : (row : List Float) (i : ℕ) → 1148 ≤ i → bit_in row i ≡ 0
unfolding bit_in
no_bit row i h = rw (le-ltb (i + 4) 1152 (omega arith))

-- a list whose first m elements are those of f, and all behind them are filled with zeros
pub zeros_behind : (f : ℕ → ℕ) (n m : ℕ) (xs : List ℕ) {i : ℕ} {ys : List ℕ} → length xs ≡ n → m ≤ n → Done 0 f n xs i → m ≤ i
    → ys ≡ replicate (length (take (length xs - m) (drop m xs))) 0 → ((k : ℕ) → m ≤ k → f k ≡ 0) → put_mid m (length xs - m) xs ys ≡ tabulate n f
zeros_behind f n m xs l h r g w z =
    let p = length (take (length xs - m) (drop m xs)) in
    let e : p ≡ n - m = grind (arith, common_steps) in
    let rest : drop (length xs - m) (drop m xs) ≡ [] = grind (arith, common_steps) in
    rw (rest, w) (tabulate_is 0 f n (take m xs ++ (replicate p 0 ++ [])) (grind (arith, common_steps)) (λ k q. go p e k q (dec_lt k m)))
  where
    go : (p : ℕ) → p ≡ n - m → (k : ℕ) → k < n → Dec (k < m) → get_or (take m xs ++ (replicate p 0 ++ [])) k 0 ≡ f k
    go p e k q (yes b) = let s = r.each k (omega arith) in grind (arith, common_steps)
    go p e k q (no b) = let s = z k (omega arith) in grind (arith, common_steps)

pub done_at : {A : Type 0} {d : A} (f : ℕ → A) (n : ℕ) (xs : List A) (i : ℕ) {j : ℕ} → i ≡ j → Done d f n xs i → Done d f n xs j
done_at {d = d} f n xs i e r = subst (λ (m : ℕ). Done d f n xs m) e r

pub done_of : {A : Type 0} {d : A} (f : ℕ → A) {n m : ℕ} {xs : List A} {i : ℕ} → n ≡ m → Done d f n xs i → Done d f m xs i
done_of {d = d} f {xs = xs} {i = i} e r = subst (λ (k : ℕ). Done d f k xs i) e r

-- the lengths, one by one
pub record Room (many : ℕ) (sums : List Float) (coherent noncoherent crcs others : List ℕ) : Type 0 where
  pub sums_size : length sums ≡ 2304
  pub first : length coherent ≡ 1152
  pub second : length noncoherent ≡ 1152
  pub first_crcs : length crcs ≡ many
  pub second_crcs : length others ≡ many

pub room_of : (many : ℕ) (sums : List Float) (coherent noncoherent crcs others : List ℕ) → room_for many sums coherent noncoherent crcs others ≡ true
    → Room many sums coherent noncoherent crcs others
unfolding room_for
room_of many sums coherent noncoherent crcs others e =
    let a = eqb (length sums) 2304 in
    let b = eqb (length coherent) 1152 in
    let c = eqb (length noncoherent) 1152 in
    let d = eqb (length crcs) many in
    let (p, fifth) = and_both (a && b && c && d) (eqb (length others) many) e in
    let (q, fourth) = and_both (a && b && c) d p in
    let (r, third) = and_both (a && b) c q in
    let (first, second) = and_both a b r in
    record {
      sums_size = eqb-true _ _ first;
      first = eqb-true _ _ second;
      second = eqb-true _ _ third;
      first_crcs = eqb-true _ _ fourth;
      second_crcs = eqb-true _ _ fifth;
    }

pub scanned_done : (n many : ℕ) (samples sums : List Float) (coherent noncoherent crcs others : List ℕ) → length samples ≡ 2310
    → room_for many sums coherent noncoherent crcs others ≡ true → scanned n many samples sums coherent noncoherent crcs others
    ≡ (0, sums_of samples, bits_from Coherent samples, bits_from Noncoherent samples, crcs_in n (bits_from Coherent samples) many, crcs_in n (bits_from Noncoherent samples) many)
unfolding scanned
scanned_done n many samples sums coherent noncoherent crcs others a e = simp (eq-eqb _ _ a, e)

pub both_done : (samples sums : List Float) (coherent noncoherent crcs others short_crcs short_others : List ℕ) → length samples ≡ 2310
    → room_for 248 sums coherent noncoherent crcs others ≡ true → length short_crcs ≡ 696 → length short_others ≡ 696
    → scanned_both samples sums coherent noncoherent crcs others short_crcs short_others
    ≡ (
      0,
      sums_of samples,
      bits_from Coherent samples,
      bits_from Noncoherent samples,
      crcs_in 14 (bits_from Coherent samples) 248,
      crcs_in 14 (bits_from Noncoherent samples) 248,
      crcs_in 7 (bits_from Coherent samples) 696,
      crcs_in 7 (bits_from Noncoherent samples) 696,
    )
unfolding scanned_both
both_done samples sums coherent noncoherent crcs others short_crcs short_others a e g h = simp (eq-eqb _ _ a, e, eq-eqb _ _ g, eq-eqb _ _ h)
