-- A line determines its answer, and the lines of a window both answers.
-- Assumes nothing.
use mathlib.Core.Path.{◌≡◌, refl, sym, ap, ◌∙◌, subst}
use mathlib.Core.List.{List, ◌++◌}
use mathlib.Core.Logic.{inl, inr}
use Prim.Native.Nat.{ℕ, zero, suc, ◌^◌, ◌<◌, ◌≤◌}
use native.Mathlib.Omega.{arith}
use lib.Ieee.{Float}
use lib.ListN.{length}
use Rattle.search.specs.declared.Settings.{Settings}
use Rattle.search.specs.declared.Answer.{Answer}
use Rattle.search.specs.Kinds.{long, short}
use Rattle.search.specs.Answers.{decode_of}
use Rattle.listing.specs.Lines.{said_number, window_line, window_lines}
use Rattle.listing.specs.Determines.{Stored, SameSaid, LineDetermines}
use Rattle.listing.proofs.Split.{two_same, two_not_one}
use Rattle.listing.proofs.Same.{silent, same_line, window_ended}
use Rattle.listing.proofs.Windows.{line_found, line_refused, long_alone, short_alone, two_searches}
use Rattle.listing.proofs.Decoded.{room_of, few_bytes, Kept, decode_kept, decode_own, unsaid, Said, decodes_said}

-- a short answer of which nothing is said has no message; it is refused if the long one is
unsaid_not : (n : ℕ) → unsaid n ≡ 0 → ⊥
unsaid_not zero e = omega arith
unsaid_not (suc zero) e = omega arith
unsaid_not (suc (suc n)) e = omega arith

unsaid_few : (n : ℕ) → unsaid n ≤ 1 → n ≤ 1
unsaid_few zero h = omega arith
unsaid_few (suc zero) h = omega arith
unsaid_few (suc (suc n)) h = h

-- ---- the lines of each form

module _ (k : ℕ) (a b : Answer) where
  long_said : said_number 7 b ≡ unsaid (said_number 14 a) → window_lines k a b ≡ window_line 14 k a
  long_said e = go (said_number 14 a) refl
    where
      go : (x : ℕ) → said_number 14 a ≡ x → window_lines k a b ≡ window_line 14 k a
      go zero q = long_alone k a b (e ∙ ap unsaid q)
      go (suc zero) q = long_alone k a b (e ∙ ap unsaid q)
      go (suc (suc x)) q = (two_searches k a b).refused (omega arith) ∙ sym (line_refused 14 k a (omega arith))

  both_said : said_number 14 a ≡ 0 → said_number 7 b ≡ 0 → window_lines k a b ≡ window_line 14 k a ++ window_line 7 k b
  both_said p q = (two_searches k a b).both p q ∙ rw (line_found 14 k a p, line_found 7 k b q)

-- ---- two windows, with the answers a and b, c and d

module _
    (k l : ℕ) (a b c d : Answer) (K : k < 2 ^ 64) (L : l < 2 ^ 64)
    (A : Kept long a) (B : Kept short b) (C : Kept long c) (D : Kept short d) where
  abbrev Same : Type 0
  Same = SameSaid k l (said_number 14 a) (said_number 14 c) a c × SameSaid k l (said_number 7 b) (said_number 7 d) b d

  one : (m n : ℕ) {x y : Answer} → m ≤ 32 → n ≤ 32 → Stored x → Stored y → window_lines k a b ≡ window_line m k x → window_lines l c d ≡ window_line n l y
      → window_lines k a b ≡ window_lines l c d → SameSaid k l (said_number m x) (said_number n y) x y
  one m n M N s t p q e = same_line m n k l _ _ M N K L s t (sym p ∙ e ∙ q)

  -- a long message is none of the short ones
  no_mix : {x y : Answer} → Kept long x → Kept short y → x.message ≡ y.message → ⊥
  unfolding long short
  no_mix x y e = omega (arith, x.size, y.size, ap length e)

  said_same : Said (said_number 14 a) (said_number 7 b) → Said (said_number 14 c) (said_number 7 d) → window_lines k a b ≡ window_lines l c d → Same
  said_same (inl p) (inl q) e =
      let s = one 14 14 (omega arith) (omega arith) A.stored C.stored (long_said k a b p) (long_said l c d q) e in (
        s,
        silent k l b d (λ z. unsaid_not (said_number 14 a) (sym p ∙ z)) (p ∙ ap unsaid s.number ∙ sym q)
            (λ h. s.window (unsaid_few (said_number 14 a) (subst (λ (x : ℕ). x ≤ 1) p h))),
      )
  said_same (inl p) (inr (inl q)) e =
      let s = one 14 7 (omega arith) (omega arith) A.stored D.stored (long_said k a b p) (short_alone l c d q.0) e in
      absurd (no_mix A D (s.message (s.number ∙ q.1)))
  said_same (inl p) (inr (inr q)) e =
      absurd (two_not_one (window_ended 14 l c) (window_ended 7 l d) (window_ended 14 k a) (sym (both_said l c d q.0 q.1) ∙ sym e ∙ long_said k a b p))
  said_same (inr (inl p)) (inl q) e =
      let s = one 7 14 (omega arith) (omega arith) B.stored C.stored (short_alone k a b p.0) (long_said l c d q) e in
      absurd (no_mix C B (sym (s.message p.1)))
  said_same (inr (inl p)) (inr (inl q)) e =
      let s = one 7 7 (omega arith) (omega arith) B.stored D.stored (short_alone k a b p.0) (short_alone l c d q.0) e in
      (silent k l a c (λ z. omega arith) (p.0 ∙ sym q.0) (λ h. s.window (omega arith)), s)
  said_same (inr (inl p)) (inr (inr q)) e =
      absurd (two_not_one (window_ended 14 l c) (window_ended 7 l d) (window_ended 7 k b) (sym (both_said l c d q.0 q.1) ∙ sym e ∙ short_alone k a b p.0))
  said_same (inr (inr p)) (inl q) e =
      absurd (two_not_one (window_ended 14 k a) (window_ended 7 k b) (window_ended 14 l c) (sym (both_said k a b p.0 p.1) ∙ e ∙ long_said l c d q))
  said_same (inr (inr p)) (inr (inl q)) e =
      absurd (two_not_one (window_ended 14 k a) (window_ended 7 k b) (window_ended 7 l d) (sym (both_said k a b p.0 p.1) ∙ e ∙ short_alone l c d q.0))
  said_same (inr (inr p)) (inr (inr q)) e =
      let s = two_same (window_ended 14 k a) (window_ended 7 k b) (window_ended 14 l c) (window_ended 7 l d) (sym (both_said k a b p.0 p.1) ∙ e ∙ both_said l c d q.0 q.1) in (
        same_line 14 14 k l a c (omega arith) (omega arith) K L A.stored C.stored s.0,
        same_line 7 7 k l b d (omega arith) (omega arith) K L B.stored D.stored s.1,
      )

-- ---- decodes are said by their own numbers

by : {k l x y m n : ℕ} {a b : Answer} → x ≡ m → y ≡ n → SameSaid k l x y a b → SameSaid k l m n a b
by {k} {l} {x} {y} {m} {n} {a} {b} p q s = subst (λ (z : ℕ). SameSaid k l m z a b) q (subst (λ (z : ℕ). SameSaid k l z y a b) p s)

module _ (samples : List Float) (s : Settings) (i : ℕ) where
  pub own_long : said_number 14 (decode_of long samples s i) ≡ (decode_of long samples s i).number
  unfolding long
  own_long = decode_own long (room_of long (inl refl)) samples s i

  pub own_short : said_number 7 (decode_of short samples s i) ≡ (decode_of short samples s i).number
  unfolding short
  own_short = decode_own short (room_of short (inr refl)) samples s i

  kept_long : Kept long (decode_of long samples s i)
  kept_long = decode_kept long (room_of long (inl refl)) samples s i

  kept_short : Kept short (decode_of short samples s i)
  kept_short = decode_kept short (room_of short (inr refl)) samples s i

  said_both : Said (said_number 14 (decode_of long samples s i)) (said_number 7 (decode_of short samples s i))
  said_both = rw (own_long, own_short) (decodes_said samples s i)

pub line_determines : LineDetermines
line_determines =
    record {
      same = λ κ ι k l a b p q K L A B e. same_line κ.bytes ι.bytes k l a b (few_bytes κ (room_of κ p)) (few_bytes ι (room_of ι q)) K L A B e;
      own = λ κ samples s i p. decode_own κ (room_of κ p) samples s i;
      decoded = λ κ ι k l samples others s t i j p q K L e.
          by (decode_own κ (room_of κ p) samples s i) (decode_own ι (room_of ι q) others t j)
          (same_line κ.bytes ι.bytes k l _ _ (few_bytes κ (room_of κ p)) (few_bytes ι (room_of ι q)) K L
          (decode_kept κ (room_of κ p) samples s i).stored (decode_kept ι (room_of ι q) others t j).stored e);
      both = λ k l samples others s t i j K L e.
          let (x, y) = said_same k l _ _ _ _ K L (kept_long samples s i) (kept_short samples s i) (kept_long others t j) (kept_short others t j)
          (said_both samples s i) (said_both others t j) e in
          (by (own_long samples s i) (own_long others t j) x, by (own_short samples s i) (own_short others t j) y);
    }
