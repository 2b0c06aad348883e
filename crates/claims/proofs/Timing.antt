-- The time of an answer: the index gains what the fraction loses, at most two samples, and a fraction that is a number ends in [-0.5, 0.5).
-- Assumes nothing.
use mathlib.Core.Path.{◌≡◌, refl, sym, ap, ◌∙◌, subst}
use mathlib.Core.List.{List}
use Prim.Native.Nat.{ℕ, suc, ◌+◌, ◌-◌, ◌*◌, ◌≤◌}
use native.Mathlib.Omega.{arith}
use lib.Dec.{T}
use lib.IntN.{ℤ, pos, negsuc, nat_abs, ◌+ℤ◌}
use lib.Ieee.{Float, binary32, fits, is_nan}
use lib.Ieee.Fits.{sub-fits}
use Rattle.floats.proofs.Integers.{sub_ge}
use Rattle.floats.proofs.Nan.{nan_is}
use Rattle.place.specs.declared.Place.{Place}
use Rattle.place.specs.Step.{sample_start}
use Rattle.timing.specs.declared.Offset.{Offset}
use Rattle.timing.specs.Subsample.{fraction_of, after_moves, gained, moves_of, timing_of}
use Rattle.timing.specs.Exact.{LessBy}
use Rattle.timing.proofs.Reach.{fraction_reaches}
use Rattle.timing.proofs.Laws.{reaches, ends_in_range, nan_stays, at_most_two}
use Rattle.timing.proofs.Moving.{moves_exact}
use Rattle.search.specs.declared.Candidate.{Candidate}
use Rattle.search.specs.Kinds.{Kind}
use Rattle.search.specs.Seen.{seen}
use Rattle.search.specs.When.{prompt_of, about, fraction_at, timing_at, index_of}
use Rattle.search.specs.Answers.{answer_of}
use Rattle.claims.specs.Timing.{moves_for, WellTimed}
use Rattle.claims.proofs.Moves.{moves_are}

fraction_fits : (parabola : Float) (offset : Offset) → T (fits binary32 (fraction_of parabola offset))
unfolding fraction_of
fraction_fits parabola offset = sub-fits binary32 _ _

-- the index with the moves, where it has as many to lose
moved_index : (given start : ℕ) (z : ℤ) → nat_abs z ≤ given - 128 + start → pos (index_of given start (moves_of z)) ≡ pos (given - 128 + start) +ℤ z
unfolding index_of
moved_index given start (pos n) h = refl
moved_index given start (negsuc n) h = sym (sub_ge (given - 128 + start) (suc n) (omega arith))

by_hand : (given : ℕ) (p : Place) → given - 128 + sample_start p ≡ given - 128 + 4 * (2 * p.bit + p.symbol) + p.phase
by_hand given p = omega arith

pub timed : (kind : Kind) (samples : List Float) (index : ℕ) (c : Candidate) → 1 ≤ c.location.place.bit
    → WellTimed kind samples index (answer_of kind samples index c)
unfolding answer_of timing_at timing_of
timed kind samples index c h =
    let w = seen kind samples in
    let place = c.location.place in
    let start = sample_start place in
    let f = fraction_at w c.message c.location in
    let p = prompt_of w c.message c.location in
    let t = fraction_fits (about w c.message p) p.offset in
    let r = reaches (about w c.message p) p.offset in
    let two = at_most_two f in
    let m : gained f ≡ moves_for f = moves_are f (fraction_reaches (about w c.message p) p.offset) in
    record {
      gained =
          moved_index index start (gained f) (omega arith)
          ∙ ap (λ (i : ℕ). pos i +ℤ gained f) (by_hand index place)
          ∙ ap (λ (k : ℤ). pos (index - 128 + 4 * (2 * place.bit + place.symbol) + place.phase) +ℤ k) m;
      lost = λ e. subst (λ (k : ℤ). LessBy k f (after_moves f)) m (moves_exact f t r e);
      within = ends_in_range f t r;
      nan_stays = λ e. let n = nan_is f e in ap is_nan (ap after_moves n ∙ nan_stays.0 ∙ sym n) ∙ e;
    }
