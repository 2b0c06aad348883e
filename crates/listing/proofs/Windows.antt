-- What is said of a window, case by case.
-- Assumes nothing.
use mathlib.Core.Path.{◌≡◌, refl, sym, ap, ◌∙◌}
use mathlib.Core.Bool.{false, ◌&&◌, and-false}
use mathlib.Core.List.{List, [], ◌++◌, append-nil}
use mathlib.Core.Logic.{◌≢◌, ◌⊎◌, inl, inr}
use Prim.Native.Nat.{ℕ, zero, suc, ◌^◌, ◌<◌, ◌≤◌}
use native.Mathlib.Omega.{arith}
use borrow.Author.Tests.{le-leb, lt-leb, eq-eqb, ne_eqb}
use lib.Dec.{eqb}
use lib.ListN.{length, length-append}
use Rattle.search.specs.declared.Answer.{Answer}
use Rattle.listing.specs.Lines.{refused_line, none_line, found_line, said_number, window_line, message_line, window_lines}
use Rattle.listing.specs.Windows.{TwoSearches}
use Rattle.listing.proofs.Lengths.{found_longer}
use Rattle.listing.proofs.Numbered.{said_none, said_disagrees}
use Rattle.listing.proofs.Same.{refused_not_none}

-- by the numbers x and y of the two answers
module _ (k : ℕ) (a b : Answer) {x y : ℕ} (X : x ≡ said_number 14 a) (Y : y ≡ said_number 7 b) where
  pub said_refused : 2 ≤ x → window_lines k a b ≡ refused_line x
  unfolding window_lines
  said_refused h = rw (← X, le-leb 2 x h)

  pub said_refused_short : x < 2 → 2 ≤ y → window_lines k a b ≡ refused_line y
  unfolding window_lines
  said_refused_short h i = rw (← X, ← Y, lt-leb 2 x h, le-leb 2 y i)

  pub said_neither : x ≡ 1 → y ≡ 1 → window_lines k a b ≡ none_line k
  unfolding window_lines
  said_neither h i = rw (← X, ← Y, h, i)

  -- one of them found something
  pub said_messages : x < 2 → y < 2 → (x ≢ 1) ⊎ (y ≢ 1) → window_lines k a b ≡ message_line 14 k a ++ message_line 7 k b
  unfolding window_lines
  said_messages h i o = rw (← X, ← Y, lt-leb 2 x h, lt-leb 2 y i, go o)
    where
      go : (x ≢ 1) ⊎ (y ≢ 1) → (eqb x 1 && eqb y 1) ≡ false
      go (inl n) = rw (ne_eqb x 1 n)
      go (inr n) = rw (ne_eqb y 1 n) (and-false (eqb x 1))

-- the line of a message of n bytes, if there is one
module _ (n k : ℕ) (a : Answer) where
  pub message_is : said_number n a ≡ 0 → message_line n k a ≡ found_line k a
  unfolding message_line
  message_is e = rw (eq-eqb (said_number n a) 0 e)

  pub message_not : said_number n a ≢ 0 → message_line n k a ≡ []
  unfolding message_line
  message_not z = rw (ne_eqb (said_number n a) 0 z)

-- ---- the claim

module _ (n k : ℕ) (a : Answer) where
  pub line_found : said_number n a ≡ 0 → window_line n k a ≡ found_line k a
  unfolding window_line
  line_found e = rw (eq-eqb (said_number n a) 0 e)

  line_none : said_number n a ≡ 1 → window_line n k a ≡ none_line k
  unfolding window_line
  line_none e = rw (ne_eqb (said_number n a) 0 (λ z. omega arith), eq-eqb (said_number n a) 1 e)

  pub line_refused : 2 ≤ said_number n a → window_line n k a ≡ refused_line (said_number n a)
  unfolding window_line
  line_refused h = rw (ne_eqb (said_number n a) 0 (λ z. omega arith), ne_eqb (said_number n a) 1 (λ z. omega arith))

module _ (k : ℕ) (a b : Answer) where
  pub long_alone : said_number 7 b ≡ 1 → window_lines k a b ≡ window_line 14 k a
  long_alone e = go (said_number 14 a) refl
    where
      go : (x : ℕ) → said_number 14 a ≡ x → window_lines k a b ≡ window_line 14 k a
      go zero q =
          said_messages k a b refl refl (omega arith) (omega arith) (inl (λ z. omega arith))
          ∙ rw (message_is 14 k a q, message_not 7 k b (λ z. omega arith), line_found 14 k a q) (append-nil (found_line k a))
      go (suc zero) q = said_neither k a b refl refl q e ∙ sym (line_none 14 k a q)
      go (suc (suc x)) q = said_refused k a b refl refl (omega arith) ∙ sym (line_refused 14 k a (omega arith))

  pub short_alone : said_number 14 a ≡ 1 → window_lines k a b ≡ window_line 7 k b
  short_alone e = go (said_number 7 b) refl
    where
      go : (x : ℕ) → said_number 7 b ≡ x → window_lines k a b ≡ window_line 7 k b
      go zero q =
          said_messages k a b refl refl (omega arith) (omega arith) (inr (λ z. omega arith))
          ∙ rw (message_not 14 k a (λ z. omega arith), message_is 7 k b q, line_found 7 k b q)
      go (suc zero) q = said_neither k a b refl refl e q ∙ sym (line_none 7 k b q)
      go (suc (suc x)) q = said_refused_short k a b refl refl (omega arith) (omega arith) ∙ sym (line_refused 7 k b (omega arith))

  both : said_number 14 a ≡ 0 → said_number 7 b ≡ 0 → window_lines k a b ≡ found_line k a ++ found_line k b
  both e q = said_messages k a b refl refl (omega arith) (omega arith) (inl (λ z. omega arith)) ∙ rw (message_is 14 k a e, message_is 7 k b q)

  none_alone : k < 2 ^ 64 → window_lines k a b ≡ none_line k → (said_number 14 a ≡ 1) × (said_number 7 b ≡ 1)
  none_alone h e = go (said_number 14 a) (said_number 7 b) refl refl
    where
      longer : (c : Answer) (rest : List ℕ) → found_line k c ++ rest ≡ none_line k → ⊥
      longer c rest q = omega (arith, ap length q, length-append (found_line k c) rest, found_longer k c)

      go : (x y : ℕ) → said_number 14 a ≡ x → said_number 7 b ≡ y → (said_number 14 a ≡ 1) × (said_number 7 b ≡ 1)
      go (suc (suc x)) y p q = absurd (refused_not_none (said_number 14 a) k h (sym (said_refused k a b refl refl (omega arith)) ∙ e))
      go zero (suc (suc y)) p q = absurd (refused_not_none (said_number 7 b) k h (sym (said_refused_short k a b refl refl (omega arith) (omega arith)) ∙ e))
      go zero zero p q = absurd (longer a (found_line k b) (sym (both p q) ∙ e))
      go zero (suc zero) p q = absurd (longer a [] (append-nil (found_line k a) ∙ (sym (line_found 14 k a p) ∙ (sym (long_alone q) ∙ e))))
      go (suc zero) (suc (suc y)) p q = absurd (refused_not_none (said_number 7 b) k h (sym (said_refused_short k a b refl refl (omega arith) (omega arith)) ∙ e))
      go (suc zero) zero p q = absurd (longer b [] (append-nil (found_line k b) ∙ (sym (line_found 7 k b q) ∙ (sym (short_alone p) ∙ e))))
      go (suc zero) (suc zero) p q = (p, q)

  pub two_searches : TwoSearches k a b
  two_searches =
      let (x, x') = said_none 14 a in
      let (y, y') = said_none 7 b in
      record {
        long_alone = λ e. long_alone (y' e);
        short_alone = λ e. short_alone (x' e);
        both = both;
        none = λ h. (λ e. let (p, q) = none_alone h e in (x p, y q), λ e. said_neither k a b refl refl (x' e.0) (y' e.1));
        refused = said_refused k a b refl refl;
        refused_short = λ h i. said_refused_short k a b refl refl (omega arith) i;
        disagreeing = λ z d. let e = said_disagrees 14 a z d in said_refused k a b refl refl (omega arith) ∙ ap refused_line e;
        disagreeing_short = λ h z d. let e = said_disagrees 7 b z d in said_refused_short k a b refl refl (omega arith) (omega arith) ∙ ap refused_line e;
      }
