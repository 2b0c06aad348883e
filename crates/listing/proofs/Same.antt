-- Equal lines are of equal answers: they have equal fields, and each field is read back.
-- Assumes nothing.
use mathlib.Core.Path.{◌≡◌, refl, sym, ap, ◌∙◌}
use mathlib.Core.Bool.{Bool, true, false, cond, and-eq-true_iff}
use mathlib.Core.List.{List, [], ◌∷◌, head-eq_of_cons-eq, tail-eq_of_cons-eq}
use Prim.Native.Nat.{ℕ, zero, suc, ◌*◌, ◌^◌, ◌<◌, ◌≤◌}
use native.Mathlib.Omega.{arith}
use borrow.Author.Rules.{rules}
use borrow.Author.Tests.{eq-eqb, ne_eqb, ltb-true}
use lib.Dec.{leb, ltb}
use lib.ListN.{length, get_or}
use Rattle.annex10.specs.Repair.{inside}
use Rattle.annex10.specs.declared.Repairs.{Repairs}
use Rattle.annex10.specs.declared.Repairs.TheVariants.{None, One, Two}
use Rattle.place.specs.declared.location.Location.{Location}
use Rattle.place.specs.Agrees.{last_trial}
use Rattle.place.proofs.Agreeing.{located_gives}
use Rattle.mode_s.specs.Avr.{avr_text}
use Rattle.search.specs.declared.Answer.{Answer}
use Rattle.listing.specs.Fields.{decimal_in, decimal, float_text, address_text, repairs_text, slicer_text}
use Rattle.listing.specs.Lines.{line, refused_line, none_line, found_line, said_number, window_line}
use Rattle.listing.specs.Determines.{Stored, SameSaid}
use Rattle.listing.proofs.Lengths.{InBytes}
use Rattle.listing.proofs.Numbered.{said_taken, said_less}
use Rattle.listing.proofs.Split.{Aboves, Ended, line_ended, line_same}
use Rattle.listing.proofs.Visible.{digits_visible, float_visible, avr_visible, address_visible, repairs_visible, slicer_visible}
use Rattle.listing.proofs.Back.{written, decimal_back, decimal_same, avr_same, float_same, repairs_same, slicer_same}

-- ---- the fields of a window's line, by its number

abbrev word_none : List ℕ
word_none = 0x6E ∷ 0x6F ∷ 0x6E ∷ 0x65 ∷ []

abbrev word_refused : List ℕ
word_refused = 0x72 ∷ 0x65 ∷ 0x66 ∷ 0x75 ∷ 0x73 ∷ 0x65 ∷ 0x64 ∷ []

abbrev opening : ℕ → ℕ → List ℕ
opening zero k = decimal k
opening (suc zero) k = decimal k
opening (suc (suc n)) k = word_refused

abbrev others : ℕ → Answer → List (List ℕ)
others zero a =
    decimal a.index
    ∷ float_text a.fraction
    ∷ avr_text a.message
    ∷ address_text a.message
    ∷ repairs_text a.location.repairs
    ∷ slicer_text a.location.slicer
    ∷ float_text a.cn0
    ∷ decimal a.undecided
    ∷ decimal a.location.trial
    ∷ []
others (suc zero) a = word_none ∷ []
others (suc (suc n)) a = decimal (suc (suc n)) ∷ []

line_said : (n x k : ℕ) (a : Answer) → said_number n a ≡ x → window_line n k a ≡ line (opening x k ∷ others x a)
unfolding window_line found_line none_line refused_line
line_said n zero k a e = rw (eq-eqb (said_number n a) 0 e)
line_said n (suc zero) k a e = rw (ne_eqb (said_number n a) 0 (λ q. omega arith), eq-eqb (said_number n a) 1 e)
line_said n (suc (suc x)) k a e = rw (ne_eqb (said_number n a) 0 (λ q. omega arith), ne_eqb (said_number n a) 1 (λ q. omega arith), e)

visible : (n k : ℕ) (a : Answer) → Aboves 0x20 (opening n k ∷ others n a)
visible zero k a = (
  digits_visible k,
  (
    digits_visible a.index,
    (
      float_visible a.fraction,
      (
        avr_visible a.message,
        (
          address_visible a.message,
          (
            repairs_visible a.location.repairs,
            (slicer_visible a.location.slicer, (float_visible a.cn0, (digits_visible a.undecided, (digits_visible a.location.trial, tt)))),
          ),
        ),
      ),
    ),
  ),
)
visible (suc zero) k a = (digits_visible k, (search rules, tt))
visible (suc (suc n)) k a = (search rules, (digits_visible (suc (suc n)), tt))

-- the word of a refusal is no number: the one that its bytes would write has other digits
not_refused : (k : ℕ) → k < 2 ^ 64 → decimal k ≡ word_refused → ⊥
unfolding decimal decimal_in
not_refused k h e =
    let w : k ≡ written word_refused = sym (decimal_back k h) ∙ ap written e in
    omega (arith, ap (λ (t : List ℕ). get_or t 0 0) (sym (ap decimal w) ∙ e))

pub refused_not_none : (n k : ℕ) → k < 2 ^ 64 → refused_line n ≡ none_line k → ⊥
unfolding refused_line none_line
refused_not_none n k h e =
    not_refused k h
    (sym (head-eq_of_cons-eq (line_same _ _ _ _ (search rules, (digits_visible n, tt)) (digits_visible k, (search rules, tt)) e)))

pub window_ended : (n k : ℕ) (a : Answer) → Ended (window_line n k a)
window_ended n k a = rw (line_said n (said_number n a) k a refl) (line_ended _ _ (visible (said_number n a) k a))

-- where there is no message, nothing is said of one
pub silent : (k l : ℕ) {x y : ℕ} (a b : Answer) → (x ≡ 0 → ⊥) → x ≡ y → (x ≤ 1 → k ≡ l) → SameSaid k l x y a b
silent k l a b none e w =
    record {
      number = e;
      window = w;
      message = λ z. absurd (none z);
      repairs = λ z. absurd (none z);
      slicer = λ z. absurd (none z);
      trial = λ z. absurd (none z);
      index = λ z. absurd (none z);
      fraction = λ z. absurd (none z);
      cn0 = λ z. absurd (none z);
      undecided = λ z. absurd (none z);
    }

-- ---- what the location of a message is read back by

inside_bytes : (n : ℕ) (ρ : Repairs) → n ≤ 32 → inside n ρ ≡ true → InBytes ρ
inside_bytes n None h e = tt
inside_bytes n (One j) h e = omega (arith, ltb-true j (8 * n) e)
inside_bytes n (Two j k) h e =
    let (p, q) = (and-eq-true_iff (ltb j (8 * n)) (ltb k (8 * n))).0 e in
    (omega (arith, ltb-true j (8 * n) p), omega (arith, ltb-true k (8 * n) q))

last_few : (n : ℕ) → last_trial n ≤ 6
last_few n = go (leb n 7)
  where
    go : (b : Bool) → cond b 4 6 ≤ 6
    go true = omega arith
    go false = omega arith

record Small (l : Location) : Type 0 where
  positions : InBytes l.repairs
  trial : l.trial < 2 ^ 64

small : (n : ℕ) (a : Answer) → n ≤ 32 → said_number n a ≡ 0 → Small a.location
small n a h e =
    let t = (located_gives n a.location (said_taken n a e)).rest in
    record { positions = inside_bytes n a.location.repairs h t.inside; trial = omega (arith, t.made, last_few n) }

-- ---- equal lines

module _ (m n k l : ℕ) (a b : Answer) (M : m ≤ 32) (N : n ≤ 32) (K : k < 2 ^ 64) (L : l < 2 ^ 64) (A : Stored a) (B : Stored b) where
  said : (x y : ℕ) → said_number m a ≡ x → said_number n b ≡ y → opening x k ∷ others x a ≡ opening y l ∷ others y b → SameSaid k l x y a b
  said zero zero p q e =
      let at : (i : ℕ) → get_or (opening zero k ∷ others zero a) i [] ≡ get_or (opening zero l ∷ others zero b) i [] = λ i. ap (λ (fs : List (List ℕ)). get_or fs i []) e in
      let f = small m a M p in
      let g = small n b N q in
      record {
        number = refl;
        window = λ _. decimal_same k l K L (at 0);
        message = λ _. avr_same a.message b.message A.message B.message (at 3);
        repairs = λ _. repairs_same a.location.repairs b.location.repairs f.positions g.positions (at 5);
        slicer = λ _. slicer_same a.location.slicer b.location.slicer (at 6);
        trial = λ _. decimal_same a.location.trial b.location.trial f.trial g.trial (at 9);
        index = λ _. decimal_same a.index b.index A.index B.index (at 1);
        fraction = λ _. float_same a.fraction b.fraction A.fraction B.fraction (at 2);
        cn0 = λ _. float_same a.cn0 b.cn0 A.cn0 B.cn0 (at 7);
        undecided = λ _. decimal_same a.undecided b.undecided (omega (arith, A.undecided)) (omega (arith, B.undecided)) (at 8);
      }
  said (suc zero) (suc zero) p q e = silent k l a b (λ z. omega arith) refl (λ _. decimal_same k l K L (head-eq_of_cons-eq e))
  said (suc (suc x)) (suc (suc y)) p q e =
      let h = said_less m a A.number in
      let i = said_less n b B.number in
      silent k l a b (λ z. omega arith) (decimal_same (suc (suc x)) (suc (suc y)) (omega arith) (omega arith) (head-eq_of_cons-eq (tail-eq_of_cons-eq e)))
      (λ z. absurd (omega arith))
  said zero (suc zero) p q e = absurd (omega (arith, ap length e))
  said zero (suc (suc y)) p q e = absurd (omega (arith, ap length e))
  said (suc zero) zero p q e = absurd (omega (arith, ap length e))
  said (suc (suc x)) zero p q e = absurd (omega (arith, ap length e))
  said (suc zero) (suc (suc y)) p q e = absurd (not_refused k K (head-eq_of_cons-eq e))
  said (suc (suc x)) (suc zero) p q e = absurd (not_refused l L (sym (head-eq_of_cons-eq e)))

  pub same_line : window_line m k a ≡ window_line n l b → SameSaid k l (said_number m a) (said_number n b) a b
  same_line e =
      let x = said_number m a in
      let y = said_number n b in
      said x y refl refl (line_same _ _ _ _ (visible x k a) (visible y l b) (sym (line_said m x k a refl) ∙ e ∙ line_said n y l b refl))
