-- The claims leave nothing open: two answers that satisfy them are the same.
-- Assumes nothing.
use mathlib.Core.Path.{◌≡◌, refl, sym, ap, ◌∙◌, subst}
use mathlib.Core.Bool.{Bool, true, false}
use mathlib.Core.List.{List}
use mathlib.Core.Logic.{◌⊎◌, inl, inr}
use Prim.Native.Nat.{ℕ, zero, suc}
use native.Mathlib.Omega.{arith}
use native.Mathlib.Decide.{ℕ_discrete}
use lib.IntN.{pos}
use lib.Ieee.{Float, of_bits, eq, is_nan}
use Rattle.floats.specs.Numbers.{zero_f}
use Rattle.place.specs.declared.location.Location.{Location}
use Rattle.timing.specs.Exact.{LessBy}
use Rattle.timing.proofs.Valued.{less_same}
use Rattle.search.specs.declared.Settings.{Settings}
use Rattle.search.specs.declared.Answer.{Answer}
use Rattle.search.specs.Kinds.{Kind}
use Rattle.search.specs.Seen.{window_of}
use Rattle.claims.specs.Calls.{Numbered}
use Rattle.claims.specs.Timing.{fraction_for, moves_for, WellTimed}
use Rattle.claims.specs.Audited.{Returned, Zeros, Answered, Same}
use Rattle.claims.proofs.Uses.{Sound, search_of_law}

zero_is : eq zero_f zero_f ≡ true
unfolding eq of_bits
zero_is = refl

one_location : {l m : Location} → l.place ≡ m.place → l.trial ≡ m.trial → l.slicer ≡ m.slicer → l.repairs ≡ m.repairs → l ≡ m
one_location {l} {m} p t z r =
    let of : Location → Location = λ x. record { place = x.place; trial = x.trial; slicer = x.slicer; repairs = x.repairs } in
    let e : of l ≡ of m = cc in
    e

module _ (kind : Kind) (sound : Sound kind) (samples : List Float) (s : Settings) (index : ℕ) where
  one_number : (n m : ℕ) → Numbered kind samples s index n → Numbered kind samples s index m → n ≡ m
  one_number zero m p q = sym (q.zero.1 (p.zero.0 refl))
  one_number (suc zero) m p q = sym (q.one.1 (p.one.0 refl))
  one_number (suc (suc zero)) m p q = sym (q.two.1 (p.two.0 refl))
  one_number (suc (suc (suc zero))) m p q = absurd (p.not_three refl)
  one_number (suc (suc (suc (suc zero)))) m p q = sym (q.four.1 (p.four.0 refl))
  one_number (suc (suc (suc (suc (suc zero))))) m p q = sym (q.five.1 (p.five.0 refl))
  one_number (suc (suc (suc (suc (suc (suc zero)))))) m p q = sym (q.six.1 (p.six.0 refl))
  one_number (suc (suc (suc (suc (suc (suc (suc n))))))) m p q = let t = p.top in absurd (omega arith)

  module _ (a b : Answer) where
    -- the fraction before any sample moves is the same, and so is what the moves leave of it
    one_fraction : a.location ≡ b.location → a.message ≡ b.message → WellTimed kind samples index a → WellTimed kind samples index b
        → (eq a.fraction b.fraction ≡ true) ⊎ ((is_nan a.fraction ≡ true) × (is_nan b.fraction ≡ true))
    one_fraction l m x y = go (is_nan (fraction_for kind samples a)) refl
      where
        same : fraction_for kind samples b ≡ fraction_for kind samples a
        same = rw (l, m)

        go : (n : Bool) → is_nan (fraction_for kind samples a) ≡ n
            → (eq a.fraction b.fraction ≡ true) ⊎ ((is_nan a.fraction ≡ true) × (is_nan b.fraction ≡ true))
        go true e = inr (x.nan_stays e, y.nan_stays (ap is_nan same ∙ e))
        go false e =
            let l : LessBy (moves_for (fraction_for kind samples a)) (fraction_for kind samples a) b.fraction =
            subst (λ (f : Float). LessBy (moves_for f) f b.fraction) same (y.lost (ap is_nan same ∙ e)) in
            inl (less_same (moves_for (fraction_for kind samples a)) (fraction_for kind samples a) a.fraction b.fraction (x.lost e) l)

    one_message : a.number ≡ b.number → Returned kind samples s index a a.location → Returned kind samples s index b b.location → Same a b
    unfolding window_of
    one_message n x y =
        let l = a.location in
        let k = b.location in
        let (p, z, r) = (search_of_law kind sound samples s).one_chosen l.place k.place l.slicer k.slicer l.repairs k.repairs x.chosen y.chosen in
        let t : l.trial ≡ k.trial = x.trial ∙ rw (z, r) (sym y.trial) in
        let e : l ≡ k = one_location p t z r in
        let m : a.message ≡ b.message = x.message ∙ rw (p, z, r) (sym y.message) in
        let i : pos a.index ≡ pos b.index = x.timed.gained ∙ rw (e, m) (sym y.timed.gained) in
        record {
          number = n;
          place = p;
          trial = t;
          slicer = z;
          repairs = r;
          message = m;
          cn0 = x.cn0 ∙ rw (p, z, r) (sym y.cn0);
          index = cc;
          fraction = one_fraction e m x.timed y.timed;
          undecided = x.undecided ∙ rw (p, z) (sym y.undecided);
        }

    no_message : a.number ≡ b.number → Zeros kind a → Zeros kind b → Same a b
    no_message n x y =
        record {
          number = n;
          place = x.place ∙ sym y.place;
          trial = x.trial ∙ sym y.trial;
          slicer = x.slicer ∙ sym y.slicer;
          repairs = x.repairs ∙ sym y.repairs;
          message = x.message ∙ sym y.message;
          cn0 = x.cn0 ∙ sym y.cn0;
          index = x.index ∙ sym y.index;
          fraction = inl (rw (x.fraction, y.fraction) zero_is);
          undecided = x.undecided ∙ sym y.undecided;
        }

    pub one_answer : Answered kind samples s index a → Answered kind samples s index b → Same a b
    one_answer x y = let n = one_number a.number b.number x.numbered y.numbered in elim (ℕ_discrete a.number 0) [
      | yes e ↦ one_message n (x.returned e) (y.returned (sym n ∙ e))
      | no e ↦ no_message n (x.zeros e) (y.zeros (λ q. e (n ∙ q)))
    ]
