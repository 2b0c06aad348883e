-- The walks over the bins.
--     peak_took, peak_kept                 the loop of the first greatest
--     peak_within                          its bin is one of those that were walked over
--     strongest_is, strongest_within       from N/2 − M to N/2 + M
--     floor_is                             the floor is two sums: below the notch, then above it
-- Assumes nothing.
use mathlib.Core.Path.{◌≡◌, refl, sym, ap, ◌∙◌}
use mathlib.Core.List.{List}
use mathlib.Core.Bool.{Bool, true, false, cond}
use Prim.Native.Nat.{ℕ, zero, suc, ◌+◌, ◌-◌, ◌*◌, ◌/◌, ◌<◌, ◌≤◌, min}
use native.Mathlib.Nat.{add-zero, add-suc}
use native.Mathlib.Omega.{arith}
use borrow.Author.Tests.{lt-ltb, le-ltb}
use lib.ListN.{length, get_or, take, drop}
use lib.Ieee.{Float, nan, binary32, add, lt}
use Rattle.std.specs.List.{fold}
use Rattle.std.proofs.lemmas.List.{get_or-take, get_or-drop, length-drop}
use Rattle.std.proofs.lemmas.List.Sums.{fold_more}
use Rattle.floats.specs.Numbers.{zero_f}
use Rattle.carrier.specs.declared.search.Best.{Best}
use Rattle.carrier.specs.Peaks.{bin_at, stronger, peak_from, peak_of}
use Rattle.carrier.specs.Floors.{outside, floor_to, floor_of}

-- bin j of the k bins from bin `first` on
bin_in : (s : List Float) (first k j : ℕ) → j < k → get_or (take k (drop first s)) j nan ≡ bin_at s (first + j)
unfolding bin_at
bin_in s first k j h = get_or-take k (drop first s) j nan h ∙ get_or-drop first s j nan

module _ (s : List Float) (first : ℕ) where
  peak_more : (k j : ℕ) {b : Best} → j < k → b ≡ peak_from s first j → stronger b (first + j) (get_or (take k (drop first s)) j nan) ≡ peak_from s first (j + 1)
  unfolding peak_from
  peak_more k j h e =
      let a : j + 1 ≡ suc j = omega arith in
      rw (bin_in s first k j h, a, e)

  pub peak_took : (k j : ℕ) {b r : Best} → j < k → b ≡ peak_from s first j → lt b.value (get_or (take k (drop first s)) j nan) ≡ true
      → r ≡ record { bin = first + j; value = get_or (take k (drop first s)) j nan } → r ≡ peak_from s first (j + 1)
  unfolding stronger
  peak_took k j h e t q = q ∙ rw t at (peak_more k j h e)

  pub peak_kept : (k j : ℕ) {b r : Best} → j < k → b ≡ peak_from s first j → lt b.value (get_or (take k (drop first s)) j nan) ≡ false
      → r ≡ b → r ≡ peak_from s first (j + 1)
  unfolding stronger
  peak_kept k j h e t q = q ∙ rw t at (peak_more k j h e)

-- ---- where the first greatest lies

pub record Within (first last bin : ℕ) : Type 0 where
  pub low : first ≤ bin
  pub high : bin ≤ last

within_stronger : (first last j : ℕ) (b : Best) (x : Float) (t : Bool) → first ≤ j → last ≤ j → Within first last b.bin
    → Within first j (cond {A = Best} t (record { bin = j; value = x }) b).bin
within_stronger first last j b x true h k r = record { low = h; high = omega arith }
within_stronger first last j b x false h k r = record { low = r.low; high = omega (arith, r.high) }

pub peak_within : (s : List Float) (first n : ℕ) → Within first (first + (n - 1)) (peak_from s first n).bin
unfolding peak_from stronger
peak_within s first zero = record { low = omega arith; high = omega arith }
peak_within s first (suc n) =
    let e : suc n - 1 ≡ n = omega arith in
    rw e
    (within_stronger first (first + (n - 1)) (first + n) (peak_from s first n) (bin_at s (first + n))
    (lt (peak_from s first n).value (bin_at s (first + n))) (omega arith) (omega arith) (peak_within s first n))

pub strongest_is : (s : List Float) (m : ℕ) {b : Best} → m ≤ length s / 2
    → b ≡ peak_from s (length s / 2 - m) (length s / 2 + m + 1 - (length s / 2 - m)) → b ≡ peak_of s m
unfolding peak_of
strongest_is s m h e =
    let a : length s / 2 + m + 1 - (length s / 2 - m) ≡ 2 * m + 1 = omega arith in
    e ∙ rw a

-- the bins before and after it are there
pub strongest_within : (s : List Float) (m : ℕ) {b : Best} → m + 2 ≤ length s / 2 → b ≡ peak_of s m → (0 < b.bin) × (b.bin + 1 < length s)
unfolding peak_of
strongest_within s m h e =
    let r = peak_within s (length s / 2 - m) (2 * m + 1) in
    let g = ap (λ (b : Best). b.bin) e in
    (omega (arith, g, r.low), omega (arith, g, r.high))

-- ---- the floor

-- a sum with one more bin, of all or from bin `first` on
sum_first : (power : Float) (s : List Float) (n : ℕ) → n < length s
    → fold (add binary32) power (take (suc n) s) ≡ add binary32 (fold (add binary32) power (take n s)) (bin_at s n)
unfolding bin_at
sum_first power s n h =
    let a : suc n ≡ n + 1 = omega arith in
    rw (a, fold_more (add binary32) power s n nan h)

sum_more : (power : Float) (s : List Float) (first n : ℕ) → first + n < length s
    → fold (add binary32) power (take (suc n) (drop first s)) ≡ add binary32 (fold (add binary32) power (take n (drop first s))) (bin_at s (first + n))
unfolding bin_at
sum_more power s first n h =
    let l : n < length (drop first s) = omega (arith, length-drop first s) in
    sum_first power (drop first s) n l ∙ rw (get_or-drop first s n nan)

module _ (s : List Float) (bin w : ℕ) where
  floor_below : (n : ℕ) → n ≤ bin - w → n ≤ length s → floor_to s bin w n ≡ fold (add binary32) zero_f (take n s)
  unfolding floor_to outside
  floor_below zero h k = refl
  floor_below (suc n) h k =
      rw (lt-ltb (n + w) bin (omega arith), floor_below n (omega arith) (omega arith), sum_first zero_f s n (omega arith))

  floor_within : (k : ℕ) → bin - w + k ≤ bin + w + 1 → floor_to s bin w (bin - w + k) ≡ floor_to s bin w (bin - w)
  unfolding floor_to outside
  floor_within zero h = rw (add-zero (bin - w))
  floor_within (suc k) h =
      rw (add-suc (bin - w) k, le-ltb (bin - w + k + w) bin (omega arith), le-ltb (bin + w) (bin - w + k) (omega arith), floor_within k (omega arith))

  floor_above : (end k : ℕ) → min (bin + w + 1) (length s) ≤ end → end + k ≤ length s
      → floor_to s bin w (end + k) ≡ fold (add binary32) (floor_to s bin w end) (take k (drop end s))
  unfolding floor_to outside
  floor_above end zero h l = rw (add-zero end)
  floor_above end (suc k) h l =
      rw (
        add-suc end k,
        le-ltb (end + k + w) bin (omega arith),
        lt-ltb (bin + w) (end + k) (omega arith),
        floor_above end k h (omega arith),
        sum_more (floor_to s bin w end) s end k (omega arith),
      )

  floor_notch : (n : ℕ) → bin - w ≤ n → n ≤ bin + w + 1 → n ≤ length s → floor_to s bin w n ≡ fold (add binary32) zero_f (take (bin - w) s)
  floor_notch n h k l =
      let e : bin - w + (n - (bin - w)) ≡ n = omega arith in
      rw e at (floor_within (n - (bin - w)) (omega arith)) ∙ floor_below (bin - w) (omega arith) (omega arith)

  pub floor_is : {start end : ℕ} {p r : Float} → bin < length s → start ≡ bin - w → end ≡ min (bin + w + 1) (length s)
      → p ≡ fold (add binary32) zero_f (take start s) → r ≡ fold (add binary32) p (take (length s - end) (drop end s)) → r ≡ floor_of s bin w
  unfolding floor_of
  floor_is {end} h a b e f =
      let d : end + (length s - end) ≡ length s = omega arith in
      let g = rw d at (floor_above end (length s - end) (omega arith) (omega arith)) in
      f ∙ rw (e, a, ← floor_notch end (omega arith) (omega arith) (omega arith)) (sym g)
