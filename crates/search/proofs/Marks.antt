-- The bits of a message at a place that were undecided: by their marks, by the samples, and by the symbols of the place alone.
--     short_of_end      the bits of no place reach bit 143, which is always marked
--     compared          what a stream tells of a bit is told of two symbols, each a sum of four samples
--     marks_tossed      a mark says that neither of the two is greater
--     by_samples        so many of the bits were undecided
--     by_symbols        so many does `count_undecided` count
--     unmarked_alike    what survives at a place where no bit is marked is the same reading
-- Assumes nothing.
use mathlib.Core.Path.{◌≡◌, refl, sym, ap, ap₂, ◌∙◌}
use mathlib.Core.Bool.{Bool, true, false, cond}
use mathlib.Core.List.{List}
use mathlib.Core.Logic.{◌⊎◌, inl, inr}
use mathlib.Core.Option.{Option, none, some}
use Prim.Native.Nat.{ℕ, ◌+◌, ◌*◌, ◌≤◌, ◌<◌, min}
use native.Mathlib.Omega.{arith}
use lib.Ieee.{Float}
use Rattle.lists.specs.Bits.{as_bit, bit_at, how_many}
use Rattle.lists.proofs.Bits.{how_many_same}
use Rattle.math.specs.declared.Complex.{Complex}
use Rattle.place.specs.declared.Place.{Place}
use Rattle.place.specs.declared.Slicer.{Slicer}
use Rattle.place.specs.declared.Slicer.TheVariants.{Coherent, Noncoherent}
use Rattle.place.specs.declared.location.Location.{Location}
use Rattle.place.specs.Step.{symbol_start}
use Rattle.place.specs.All.{listed}
use Rattle.place.proofs.Within.{listed_gives}
use Rattle.parts.specs.Part.{symbols_at}
use Rattle.kernels.specs.Symbols.{complex_at, symbol_of}
use Rattle.kernels.proofs.Summing.{complex_part, row_symbol}
use Rattle.slicing.specs.Slices.{undecided, of_pair, mark_bit}
use Rattle.slicing.specs.Undecided.{undecided_in}
use Rattle.slicing.proofs.Slicing.{pair_inside, bit_marked}
use Rattle.streams.proofs.Reading.{message_bit}
use Rattle.search.specs.declared.Settings.{Settings}
use Rattle.search.specs.declared.Tried.{Tried}
use Rattle.search.specs.declared.Tried.TheVariants.{Pass, Fail}
use Rattle.search.specs.declared.Candidate.{Candidate}
use Rattle.search.specs.Kinds.{Kind, long, short}
use Rattle.search.specs.Window.{Window, unmarked}
use Rattle.search.specs.Trials.{reading}
use Rattle.search.specs.Choice.{candidate, dropped, survivor, candidate_at}
use Rattle.search.specs.Seen.{row, marks_at, undecided_at}

-- ---- bit 143

-- a message at a place that is searched ends one bit before its stream does
pub short_of_end : (n m : ℕ) (p : Place) (j : ℕ) → m + 8 * n ≤ 143 → listed m p ≡ true → j < 8 * n → p.bit + j < 143
short_of_end n m p j h e l = omega (arith, (listed_gives m p e).to)

pub long_short_of_end : (p : Place) (j : ℕ) → listed long.last p ≡ true → j < 8 * long.bytes → p.bit + j < 143
unfolding long
long_short_of_end p j = short_of_end 14 31 p j (omega arith)

pub short_short_of_end : (p : Place) (j : ℕ) → listed short.last p ≡ true → j < 8 * short.bytes → p.bit + j < 143
unfolding short
short_short_of_end p j = short_of_end 7 87 p j (omega arith)

-- ---- two symbols of a place

module _ (samples : List Float) (p : Place) where
  -- the two of bit j
  abbrev pub first_symbol : ℕ → Complex
  first_symbol j = symbol_of samples p.phase (symbol_start p + 2 * j)

  abbrev pub second_symbol : ℕ → Complex
  second_symbol j = symbol_of samples p.phase (symbol_start p + 2 * j + 1)

  pub compared : (test : Complex → Complex → Bool) (last j : ℕ) → p.phase ≤ 3 → p.symbol ≤ 1 → p.bit + j < 143
      → of_pair test last (row samples p.phase) p.symbol (p.bit + j) ≡ as_bit (test (first_symbol j) (second_symbol j))
  unfolding row
  compared test last j hk hy hb =
      let a : symbol_start p + 2 * j ≡ 2 * (p.bit + j) + p.symbol = omega arith in
      rw a
      (sym
      (pair_inside test last _ p.symbol (p.bit + j) (omega arith)
      (sym (row_symbol samples p.phase (2 * (p.bit + j) + p.symbol) (omega arith) (omega arith)))
      (sym (row_symbol samples p.phase (2 * (p.bit + j) + p.symbol + 1) (omega arith) (omega arith)))
      refl))

  -- ---- the count

  module _ (n m : ℕ) (room : m + 8 * n ≤ 143) (e : listed m p ≡ true) (slicer : Slicer) where
    -- neither symbol of bit j is greater
    abbrev pub tossed : ℕ → ℕ
    tossed j = as_bit (undecided slicer (first_symbol j) (second_symbol j))

    pub marks_tossed : (j : ℕ) → j < 8 * n → bit_at (marks_at n samples slicer p) j ≡ tossed j
    unfolding marks_at mark_bit
    marks_tossed j l =
        let g = listed_gives m p e in
        let b = short_of_end n m p j room e l in
        message_bit _ n p.bit j l
        ∙ bit_marked slicer (row samples p.phase) p.symbol (p.bit + j) (omega arith)
        ∙ compared (undecided slicer) 1 j g.phase g.symbol b

    pub by_samples : undecided_at n samples slicer p ≡ how_many tossed (8 * n)
    unfolding undecided_at
    by_samples = how_many_same (bit_at (marks_at n samples slicer p)) tossed (8 * n) marks_tossed

    -- symbol i of the part
    in_part : (i : ℕ) → i < 16 * n → complex_at (symbols_at n (row samples p.phase) p) i ≡ symbol_of samples p.phase (symbol_start p + i)
    unfolding row symbols_at
    in_part i l =
        let g = listed_gives m p e in
        let a : 32 * n ≡ 2 * (16 * n) = omega arith in
        rw a (complex_part (row samples p.phase) (symbol_start p) (16 * n) i l)
        ∙ row_symbol samples p.phase (symbol_start p + i) (omega (arith, g.phase)) (omega (arith, g.to, g.symbol))

    pub by_symbols : undecided_in slicer (symbols_at n (row samples p.phase) p) (8 * n) ≡ undecided_at n samples slicer p
    unfolding undecided_in
    by_symbols =
        let x = symbols_at n (row samples p.phase) p in
        how_many_same (λ (j : ℕ). as_bit (undecided slicer (complex_at x (2 * j)) (complex_at x (2 * j + 1)))) tossed (8 * n)
        (λ j l.
        let a : symbol_start p + (2 * j + 1) ≡ symbol_start p + 2 * j + 1 = omega arith in
        let u = in_part (2 * j) (omega arith) in
        let v = in_part (2 * j + 1) (omega arith) ∙ ap (symbol_of samples p.phase) a in
        ap₂ (λ (z w : Complex). as_bit (undecided slicer z w)) u v)
        ∙ sym by_samples

-- ---- a search that sees no marks

module _ (w : Window) where
  -- nothing survives of either, or the same reading does
  abbrev pub Alike : Option Candidate → Option Candidate → Type 0
  Alike o o' = ((o ≡ none) × (o' ≡ none)) ⊎ ((r : Location) × (o ≡ some (candidate (unmarked w) r)) × (o' ≡ some (candidate w r)))

  survivors_alike : (s : Settings) (t : Tried) → Alike (survivor s (unmarked w) t) (survivor s w t)
  unfolding survivor dropped candidate
  survivors_alike s Fail = inl (refl, refl)
  survivors_alike s (Pass r) = go (dropped s (w.distance r.place) (candidate w r))
    where
      go : (b : Bool) → Alike (cond b none (some (candidate (unmarked w) r))) (cond b none (some (candidate w r)))
      go true = inl (refl, refl)
      go false = inr (r, refl, refl)

  pub unmarked_alike : (kind : Kind) (s : Settings) (p : Place) → Alike (candidate_at kind s (unmarked w) p) (candidate_at kind s w p)
  unfolding candidate_at
  unmarked_alike kind s p = survivors_alike s (reading kind (min s.level kind.most) p (w.bits Coherent p) (w.bits Noncoherent p))
