-- Laws of symbol sums.
--     four_is               a number of the sums: four samples, one after the other
--     sum_stands            where a sum stands
--     symbols_in_law            the symbols that the sums of a window are
--     pair_more             a symbol is set out
--     pairs_start, -end     before the phases of a symbol, and after them
--     sums_length, symbols_length        there are 2,304 numbers
--     symbol_stands         where a symbol stands
--     complex_part          complex numbers of a part of a row
--     row_symbol            a row by itself holds the symbols of its phase
--     summed_done, set_done, accumulated_done      the answers where nothing is refused
--     sums_made, symbols_out, symbols_made      what is made then
-- Assumes nothing.
use mathlib.Core.Path.{◌≡◌, sym, ap, ◌∙◌}
use mathlib.Core.List.{List}
use Prim.Native.Nat.{ℕ, ◌+◌, ◌-◌, ◌*◌, ◌/◌, ◌%◌, ◌<◌, ◌≤◌}
use native.Mathlib.Nat.{mod-lt}
use native.Mathlib.Decide.{ℕ_discrete}
use native.Mathlib.Omega.{arith}
use borrow.Author.Tests.{eq-eqb}
use lib.Dec.{lit<}
use lib.ListN.{length, get_or, set, take, drop}
use lib.Seq.{get_or-take, get_or-drop}
use lib.Ieee.{Float, nan}
use Rattle.lists.proofs.Table.{Where, where_more, length_tabulate, get_d_tabulate, tabulate_is}
use Rattle.kernels.specs.Symbols.{complex_at, sum_from, sum_part, sums_of, summed, symbol_of, symbol_part, symbols_of, symbol_in, symbols_in, set_out, accumulated}
use Rattle.kernels.specs.Inner.{four_from}

-- both parts of four samples, one after the other
module _ (s : List Float) (j : ℕ) where
  four_re : four_from s (2 * j) ≡ (sum_from s j 4).re
  unfolding four_from sum_from complex_at
  four_re =
      let z : j + 0 ≡ j = omega arith in
      let a : 2 * j + 2 ≡ 2 * (j + 1) = omega arith in
      let b : 2 * j + 4 ≡ 2 * (j + 2) = omega arith in
      let d : 2 * j + 6 ≡ 2 * (j + 3) = omega arith in
      rw (z, a, b, d)

  four_im : four_from s (2 * j + 1) ≡ (sum_from s j 4).im
  unfolding four_from sum_from complex_at
  four_im =
      let z : j + 0 ≡ j = omega arith in
      let a : 2 * j + 1 + 2 ≡ 2 * (j + 1) + 1 = omega arith in
      let b : 2 * j + 1 + 4 ≡ 2 * (j + 2) + 1 = omega arith in
      let d : 2 * j + 1 + 6 ≡ 2 * (j + 3) + 1 = omega arith in
      rw (z, a, b, d)

pub four_is : (s : List Float) (i : ℕ) → four_from s i ≡ sum_part s i
unfolding sum_part
four_is s i = elim (ℕ_discrete (i % 2) 0) [
  | yes e ↦
      let a : i ≡ 2 * (i / 2) = omega arith in
      ap (four_from s) a ∙ four_re s (i / 2) ∙ rw e
  | no other ↦
      let e : i % 2 ≡ 1 = omega arith in
      let a : i ≡ 2 * (i / 2) + 1 = omega arith in
      ap (four_from s) a ∙ four_im s (i / 2) ∙ rw e
]

-- a sum by its parts
pub sum_stands : (s : List Float) (j : ℕ) → j < 1152 → complex_at (sums_of s) j ≡ sum_from s j 4
unfolding complex_at sums_of sum_part
sum_stands s j h =
    let a : 2 * j % 2 ≡ 0 = omega arith in
    let b : 2 * j / 2 ≡ j = omega arith in
    let c : (2 * j + 1) % 2 ≡ 1 = omega arith in
    let d : (2 * j + 1) / 2 ≡ j = omega arith in
    rw (get_d_tabulate 2304 (sum_part s) (2 * j) nan (omega arith), get_d_tabulate 2304 (sum_part s) (2 * j + 1) nan (omega arith), a, b, c, d)

-- the symbols that the sums of a window are
module _ (s : List Float) (i : ℕ) (h : i < 2304) where
  symbol_in_law : symbol_in (sums_of s) i ≡ symbol_part s i
  unfolding symbol_in symbol_part symbol_of sums_of sum_part
  symbol_in_law =
      let q = 4 * (i / 2 % 288) + i / 576 in
      let l : i / 2 % 288 < 288 = mod-lt (i / 2) (lit< tt) in
      let u : i % 2 < 2 = mod-lt i (lit< tt) in
      let k : i / 576 < 4 = omega arith in
      let a : (2 * q + i % 2) % 2 ≡ i % 2 = omega arith in
      let b : (2 * q + i % 2) / 2 ≡ q = omega arith in
      rw (get_d_tabulate 2304 (sum_part s) (2 * q + i % 2) nan (omega arith), a, b)

pub symbols_in_law : (s : List Float) → symbols_in (sums_of s) ≡ symbols_of s
unfolding symbols_in symbols_of
symbols_in_law s =
    tabulate_is nan (symbol_part s) 2304 (symbols_in (sums_of s)) (length_tabulate 2304 (symbol_in (sums_of s)))
    (λ i h. get_d_tabulate 2304 (symbol_in (sums_of s)) i nan h ∙ symbol_in_law s i h)

-- the numbers of symbol n of phase k
module _ (s : List Float) (k n : ℕ) (l : n < 288) where
  re_is : symbol_part s (576 * k + 2 * n) ≡ (symbol_of s k n).re
  unfolding symbol_part
  re_is =
      let i = 576 * k + 2 * n in
      let a : i % 2 ≡ 0 = omega arith in
      let b : i / 576 ≡ k = omega arith in
      let h : i / 2 ≡ 288 * k + n = omega arith in
      let d : i / 2 % 288 ≡ n = rw h (omega arith) in
      rw (a, b, d)

  im_is : symbol_part s (576 * k + 2 * n + 1) ≡ (symbol_of s k n).im
  unfolding symbol_part
  im_is =
      let i = 576 * k + 2 * n + 1 in
      let a : i % 2 ≡ 1 = omega arith in
      let b : i / 576 ≡ k = omega arith in
      let h : i / 2 ≡ 288 * k + n = omega arith in
      let d : i / 2 % 288 ≡ n = rw h (omega arith) in
      rw (a, b, d)

-- the numbers that stand stored: the first 2 n of each row, and the next two of the first rows, t numbers in all
abbrev pub Stored : ℕ → ℕ → ℕ → Type 0
Stored n t j = (j % 576 < 2 * n + 2) × (j % 576 < 2 * n + (t - 2 * (j / 576)))

-- number e of the two of row k is the one that is stored next
next : (n k e r c : ℕ) → e < 2 → c < 2 * n + 2 → c < 2 * n + (2 * k + e + 1 - 2 * r) → (576 * r + c ≡ 576 * k + 2 * n + e → ⊥)
    → c < 2 * n + (2 * k + e - 2 * r)
next n k e r c he hc h other = omega arith

stored_next : (n k e j : ℕ) → e < 2 → Stored n (2 * k + e + 1) j → (j ≡ 576 * k + 2 * n + e → ⊥) → Stored n (2 * k + e) j
stored_next n k e j he q other =
    let d : 576 * (j / 576) + j % 576 ≡ j = omega arith in
    (q.0, next n k e (j / 576) (j % 576) he q.0 q.1 (λ x. other (sym d ∙ x)))

-- where the two numbers of symbol n of phase k come from
module _ (sums : List Float) (k n : ℕ) (l : n < 288) where
  from_re : get_or sums (2 * (4 * n + k)) nan ≡ symbol_in sums (576 * k + 2 * n)
  unfolding symbol_in
  from_re =
      let i = 576 * k + 2 * n in
      let a : i % 2 ≡ 0 = omega arith in
      let b : i / 576 ≡ k = omega arith in
      let h : i / 2 ≡ 288 * k + n = omega arith in
      let d : i / 2 % 288 ≡ n = rw h (omega arith) in
      let z : 2 * (4 * n + k) + 0 ≡ 2 * (4 * n + k) = omega arith in
      rw (a, b, d, z)

  from_im : get_or sums (2 * (4 * n + k) + 1) nan ≡ symbol_in sums (576 * k + 2 * n + 1)
  unfolding symbol_in
  from_im =
      let i = 576 * k + 2 * n + 1 in
      let a : i % 2 ≡ 1 = omega arith in
      let b : i / 576 ≡ k = omega arith in
      let h : i / 2 ≡ 288 * k + n = omega arith in
      let d : i / 2 % 288 ≡ n = rw h (omega arith) in
      rw (a, b, d)

-- symbol n of phase k is stored after those before it
pub pair_more : (sums xs : List Float) (n k : ℕ) → n < 288 → k < 4
    → Where nan (symbol_in sums) 2304 xs (Stored n (2 * k))
    → Where nan (symbol_in sums) 2304 (set (set xs (576 * k + 2 * n) (get_or sums (2 * (4 * n + k)) nan)) (576 * k + 2 * n + 1) (get_or sums (2 * (4 * n + k) + 1) nan)) (Stored n (2 * (k + 1)))
pair_more sums xs n k hn hk r =
    let i = 576 * k + 2 * n in
    let from = 2 * (4 * n + k) in
    let u : 2 * k + 1 + 1 ≡ 2 * (k + 1) = omega arith in
    let w : 576 * k + 2 * n + 0 ≡ i = omega arith in
    let y : 2 * k + 0 ≡ 2 * k = omega arith in
    let z : 2 * k + 0 + 1 ≡ 2 * k + 1 = omega arith in
    where_more nan (symbol_in sums) 2304 (set xs i (get_or sums from nan)) (Stored n (2 * k + 1)) (Stored n (2 * (k + 1))) (i + 1) (get_or sums (from + 1) nan) (omega arith)
    (from_im sums k n hn)
    (λ m h q other. stored_next n k 1 m (omega arith) (rw u q) other)
    (where_more nan (symbol_in sums) 2304 xs (Stored n (2 * k)) (Stored n (2 * k + 1)) i (get_or sums from nan) (omega arith)
    (from_re sums k n hn)
    (λ m h q other. rw y at (stored_next n k 0 m (omega arith) (rw z q) (λ x. other (x ∙ w))))
    r)

-- before the loop over the phases, and after it
module _ (sums xs : List Float) (n : ℕ) where
  pub pairs_start : Where nan (symbol_in sums) 2304 xs (λ (j : ℕ). j % 576 < 2 * n) → Where nan (symbol_in sums) 2304 xs (Stored n (2 * 0))
  pairs_start r = record { size = r.size; each = λ j h q. r.each j h (omega arith) }

  pub pairs_end : (k : ℕ) → 4 ≤ k → Where nan (symbol_in sums) 2304 xs (Stored n (2 * k)) → Where nan (symbol_in sums) 2304 xs (λ (j : ℕ). j % 576 < 2 * (n + 1))
  pairs_end k l r = record { size = r.size; each = λ j h q. r.each j h (omega arith, omega arith) }

pub sums_length : (s : List Float) → length (sums_of s) ≡ 2304
unfolding sums_of
sums_length s = length_tabulate 2304 (sum_part s)

pub symbols_length : (s : List Float) → length (symbols_of s) ≡ 2304
unfolding symbols_of
symbols_length s = length_tabulate 2304 (symbol_part s)

-- row k holds the symbols of phase k
pub symbol_stands : (s : List Float) (k n : ℕ) → k < 4 → n < 288 → complex_at (symbols_of s) (288 * k + n) ≡ symbol_of s k n
unfolding complex_at symbols_of
symbol_stands s k n hk hn =
    let a : 2 * (288 * k + n) ≡ 576 * k + 2 * n = omega arith in
    rw (a, get_d_tabulate 2304 (symbol_part s) (576 * k + 2 * n) nan (omega arith), get_d_tabulate 2304 (symbol_part s) (576 * k + 2 * n + 1) nan (omega arith), re_is s k n hn, im_is s k n hn)

-- complex numbers of a part of a row
pub complex_part : (xs : List Float) (a m j : ℕ) → j < m → complex_at (take (2 * m) (drop (2 * a) xs)) j ≡ complex_at xs (a + j)
unfolding complex_at
complex_part xs a m j h =
    let u : 2 * j < 2 * m = omega arith in
    let v : 2 * j + 1 < 2 * m = omega arith in
    let p : 2 * a + 2 * j ≡ 2 * (a + j) = omega arith in
    let q : 2 * a + (2 * j + 1) ≡ 2 * (a + j) + 1 = omega arith in
    rw (get_or-take (2 * m) (drop (2 * a) xs) (2 * j) nan u, get_or-take (2 * m) (drop (2 * a) xs) (2 * j + 1) nan v, get_or-drop (2 * a) xs (2 * j) nan, get_or-drop (2 * a) xs (2 * j + 1) nan, p, q)

-- the row of phase k by itself
pub row_symbol : (s : List Float) (k n : ℕ) → k < 4 → n < 288 → complex_at (take 576 (drop (576 * k) (symbols_of s))) n ≡ symbol_of s k n
row_symbol s k n hk hn =
    let a : 576 * k ≡ 2 * (288 * k) = omega arith in
    rw a (complex_part (symbols_of s) (288 * k) 288 n hn ∙ symbol_stands s k n hk hn)

pub summed_done : (samples sums : List Float) → length samples ≡ 2310 → length sums ≡ 2304 → summed samples sums ≡ (0, sums_of samples)
unfolding summed
summed_done samples sums a b = simp (eq-eqb _ _ a, eq-eqb _ _ b)

pub sums_made : (samples sums : List Float) {r : ℕ} {now : List Float} → length samples ≡ 2310 → length sums ≡ 2304 → (r, now) ≡ summed samples sums → now ≡ sums_of samples
sums_made samples sums a b e = ap (λ (p : ℕ × List Float). p.1) (e ∙ summed_done samples sums a b)

pub set_done : (sums symbols : List Float) → length sums ≡ 2304 → length symbols ≡ 2304 → set_out sums symbols ≡ (0, symbols_in sums)
unfolding set_out
set_done sums symbols a b = simp (eq-eqb _ _ a, eq-eqb _ _ b)

-- from the sums of a window its symbols
pub symbols_out : (samples sums symbols : List Float) {r : ℕ} {now : List Float} → sums ≡ sums_of samples → length symbols ≡ 2304 → (r, now) ≡ set_out sums symbols
    → now ≡ symbols_of samples
symbols_out samples sums symbols a b e =
    ap (λ (p : ℕ × List Float). p.1) (e ∙ set_done sums symbols (ap length a ∙ sums_length samples) b) ∙ ap symbols_in a ∙ symbols_in_law samples

pub accumulated_done : (samples symbols : List Float) → length samples ≡ 2310 → length symbols ≡ 2304
    → accumulated samples symbols ≡ (0, symbols_of samples)
unfolding accumulated
accumulated_done samples symbols a b = simp (eq-eqb _ _ a, eq-eqb _ _ b)

pub symbols_made : (samples symbols : List Float) {r : ℕ} {now : List Float} → length samples ≡ 2310 → length symbols ≡ 2304 → (r, now) ≡ accumulated samples symbols
    → now ≡ symbols_of samples
symbols_made samples symbols a b e = ap (λ (p : ℕ × List Float). p.1) (e ∙ accumulated_done samples symbols a b)
