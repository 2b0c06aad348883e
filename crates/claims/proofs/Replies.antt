-- Which replies to an interrogator with a code of its own are taken.
-- Assumes nothing.
use mathlib.Core.Path.{◌≡◌, refl, sym, ap, ap₂, ◌∙◌, subst}
use mathlib.Core.Bool.{Bool, true, false, ◌&&◌, not, cond, true≢false, and-eq-true_iff}
use mathlib.Core.List.{List, [], ◌∷◌, ◌++◌}
use mathlib.Core.Logic.{◌↔◌, ◌≢◌}
use Prim.Native.Nat.{ℕ, zero, suc, ◌-◌, ◌/◌, ◌%◌, ◌^◌, ◌≤◌, ◌<◌}
use native.Mathlib.Omega.{arith}
use borrow.Author.Tests.{eqb-true, eq-eqb, leb-true, le-leb}
use lib.Dec.{T, eqb, leb, eqb→eq}
use lib.Bits.{bit_xor, xor_zero_r, xor_comm, xor_self}
use lib.ListN.{length, get_or, set, drop, replicate, length-set}
use Rattle.lists.proofs.Xor.{xor_assoc}
use Rattle.lists.proofs.Test.{all_below, below, every, at}
use Rattle.annex10.specs.Remainder.{remainder}
use Rattle.annex10.specs.Division.{xors}
use Rattle.annex10.specs.Flip.{flip}
use Rattle.annex10.specs.Repair.{repaired, pattern}
use Rattle.annex10.specs.declared.Repairs.{Repairs}
use Rattle.annex10.specs.declared.Repairs.TheVariants.{None, One, Two}
use Rattle.annex10.proofs.Linear.{remainder_linear}
use Rattle.annex10.proofs.Repairing.{clears_when}
use Rattle.annex10.proofs.Singles.{singles_from, singles}
use Rattle.place.specs.declared.Place.{Place}
use Rattle.place.specs.declared.Slicer.{Slicer}
use Rattle.place.specs.declared.Slicer.TheVariants.{Coherent, Noncoherent}
use Rattle.place.specs.Agrees.{side}
use Rattle.search.specs.declared.Settings.{Settings}
use Rattle.search.specs.Kinds.{good, short}
use Rattle.search.specs.Window.{Window}
use Rattle.claims.specs.Fits.{Fits}
use Rattle.claims.specs.Replies.{Squitter, coded, OneBit, Replies}

-- ---- a code adds its own remainder

-- x xored into the last of n + 1 numbers
last_xors : (n : ℕ) (m : List ℕ) (x : ℕ) → length m ≡ suc n → set m n (bit_xor (get_or m n 0) x) ≡ xors m (replicate n 0 ++ (x ∷ []))
last_xors zero (y ∷ []) x e = refl
last_xors zero [] x e = absurd (omega arith)
last_xors zero (y ∷ z ∷ m) x e = absurd (omega arith)
last_xors (suc n) [] x e = absurd (omega arith)
last_xors (suc n) (y ∷ m) x e = ap₂ ◌∷◌ (sym (xor_zero_r y)) (last_xors n m x (omega arith))

zeros_before : (code : ℕ) → remainder (replicate 6 0 ++ (code ∷ [])) ≡ remainder (code ∷ [])
unfolding remainder
zeros_before code = refl

coded_remainder : (m : List ℕ) → Squitter m → (code : ℕ) → remainder (coded m code) ≡ remainder (code ∷ [])
unfolding coded
coded_remainder m q code =
    ap remainder (last_xors 6 m code q.size)
    ∙ remainder_linear m (replicate 6 0 ++ (code ∷ [])) q.size
    ∙ ap₂ bit_xor q.clear (zeros_before code)
    ∙ xor_comm 0 (remainder (code ∷ [])) ∙ xor_zero_r (remainder (code ∷ []))

-- ---- computed tests: the 56 positions, which are the last of 112, and the 127 codes

position : List ℕ → ℕ → Bool
position xs j = eqb (pattern 7 (One j)) (get_or xs j 0)

positions : T (all_below 56 (position (drop 56 singles)))
unfolding position singles singles_from pattern repaired flip remainder
positions = tt

position_is : (j : ℕ) → j < 56 → pattern 7 (One j) ≡ get_or (drop 56 singles) j 0
unfolding position
position_is j h = eqb→eq _ _ (below 56 (position (drop 56 singles)) positions j h)

same : Bool → Bool → Bool
same a b = cond a b (not b)

-- the positions are walked with their remainders; r is that of the code
tested : ℕ → ℕ → ℕ → ℕ → Bool
tested code r j x = same (eqb x r) (leb 49 j && eqb code (2 ^ (55 - j)))

test : List ℕ → ℕ → Bool
test xs c = not (eqb (remainder (suc c ∷ [])) 0) && every (tested (suc c) (remainder (suc c ∷ []))) 0 xs

holds : T (all_below 127 (test (drop 56 singles)))
unfolding test tested same singles singles_from remainder
holds = tt

passed : (code : ℕ) → 1 ≤ code → code < 128 → T (test (drop 56 singles) (code - 1))
passed code l h = below 127 (test (drop 56 singles)) holds (code - 1) (omega arith)

-- ---- what the test says

same_is : (a b : Bool) → T (same a b) → a ≡ b
unfolding same
same_is true true t = refl
same_is true false t = absurd t
same_is false true t = absurd t
same_is false false t = refl

and_left : (a b : Bool) → T (a && b) → T a
and_left true b t = tt
and_left false b t = t

and_right : (a b : Bool) → T (a && b) → T b
and_right true b t = t
and_right false b t = absurd t

not-true : (b : Bool) → T (not b) → b ≡ false
not-true true t = absurd t
not-true false t = refl

module _ (code : ℕ) (l : 1 ≤ code) (h : code < 128) where
  r : ℕ
  r = remainder (code ∷ [])

  tests : (c : ℕ) → suc c ≡ code → T (test (drop 56 singles) c) → (T (not (eqb r 0))) × (T (every (tested code r) 0 (drop 56 singles)))
  unfolding test r
  tests c e t = subst (λ (x : ℕ). (T (not (eqb (remainder (x ∷ [])) 0))) × (T (every (tested x (remainder (x ∷ []))) 0 (drop 56 singles)))) e
      (and_left (not (eqb (remainder (suc c ∷ [])) 0)) _ t, and_right (not (eqb (remainder (suc c ∷ [])) 0)) _ t)

  both : (T (not (eqb r 0))) × (T (every (tested code r) 0 (drop 56 singles)))
  both = tests (code - 1) (omega arith) (passed code l h)

  not_zero : r ≢ 0
  not_zero e = true≢false (sym (eq-eqb r 0 e) ∙ not-true (eqb r 0) both.0)

  many : (j : ℕ) → j < 56 → j < length (drop 56 singles)
  unfolding singles singles_from
  many j g = g

  one_bit : (j : ℕ) → j < 56 → eqb (pattern 7 (One j)) r ≡ (leb 49 j && eqb code (2 ^ (55 - j)))
  unfolding tested
  one_bit j g = rw (position_is j g) (same_is _ _ (at (tested code r) (drop 56 singles) both.1 j (many j g)))

  one_bit_is : (j : ℕ) → j < 56 → (pattern 7 (One j) ≡ r) ↔ OneBit code j
  one_bit_is j g =
      let b = and-eq-true_iff (leb 49 j) (eqb code (2 ^ (55 - j))) in (
        λ e.
            let q = b.0 (sym (one_bit j g) ∙ eq-eqb _ _ e) in
            (leb-true 49 j q.0, omega arith, eqb-true _ _ q.1),
        λ o. eqb-true _ _ (one_bit j g ∙ b.1 (le-leb 49 j o.0, eq-eqb _ _ o.2)),
      )

-- ---- the replies

coded_size : (m : List ℕ) → Squitter m → (code : ℕ) → length (coded m code) ≡ 7
unfolding coded
coded_size m q code = length-set m 6 (bit_xor (get_or m 6 0) code) ∙ q.size

uncleared : (m : List ℕ) → Squitter m → (code : ℕ) → 1 ≤ code → code < 128 → remainder (coded m code) ≢ 0
unfolding r
uncleared m q code l h e = not_zero code l h (sym (coded_remainder m q code) ∙ e)

cleared : (m : List ℕ) → Squitter m → (code : ℕ) → 1 ≤ code → code < 128 → (j : ℕ) → j < 56
    → (remainder (repaired (coded m code) (One j)) ≡ 0) ↔ OneBit code j
unfolding r
cleared m q code l h j g =
    let (to, back) = clears_when 7 (coded m code) (One j) (coded_size m q code) in
    let (there, again) = one_bit_is code l h j g in
    let e = coded_remainder m q code in
    (λ z. there (to z ∙ e), λ o. back (again o ∙ sym e))

-- the bit at a position of the last byte, turned over in a coded message
mend : (m : List ℕ) (j x : ℕ) → j / 8 ≡ 6 → x ≡ 2 ^ (7 - j % 8) → length m ≡ 7 → flip (coded m x) j ≡ m
unfolding flip coded
mend m j x e f l = rw (e, ← f) (go m l)
  where
    go : (m : List ℕ) → length m ≡ 7 → set (set m 6 (bit_xor (get_or m 6 0) x)) 6 (bit_xor (get_or (set m 6 (bit_xor (get_or m 6 0) x)) 6 0) x) ≡ m
    go (a ∷ b ∷ c ∷ d ∷ f ∷ g ∷ y ∷ []) e = ap (λ (z : ℕ). a ∷ b ∷ c ∷ d ∷ f ∷ g ∷ z ∷ []) (xor_assoc y x x ∙ ap (bit_xor y) (xor_self x) ∙ xor_zero_r y)
    go [] e = absurd (omega arith)
    go (a ∷ []) e = absurd (omega arith)
    go (a ∷ b ∷ []) e = absurd (omega arith)
    go (a ∷ b ∷ c ∷ []) e = absurd (omega arith)
    go (a ∷ b ∷ c ∷ d ∷ []) e = absurd (omega arith)
    go (a ∷ b ∷ c ∷ d ∷ f ∷ []) e = absurd (omega arith)
    go (a ∷ b ∷ c ∷ d ∷ f ∷ g ∷ []) e = absurd (omega arith)
    go (a ∷ b ∷ c ∷ d ∷ f ∷ g ∷ y ∷ z ∷ m) e = absurd (omega arith)

mended : (m : List ℕ) → Squitter m → (code j : ℕ) → OneBit code j → repaired (coded m code) (One j) ≡ m
unfolding repaired
mended m q code j o =
    let a : j / 8 ≡ 6 = omega (arith, o.0, o.1) in
    let b : 7 - j % 8 ≡ 55 - j = omega (arith, o.0, o.1) in
    mend m j code a (o.2 ∙ ap (λ (i : ℕ). 2 ^ i) (sym b)) q.size

-- ---- what fits

not_noncoherent : Coherent ≡ Noncoherent → ⊥
not_noncoherent e = omega (arith, ap side e)

module _ (s : Settings) (w : Window) (p : Place) (z : Slicer) (m : List ℕ) (q : Squitter m) (code : ℕ) (l : 1 ≤ code) (h : code < 128)
    (b : w.bits z p ≡ coded m code) where
  fits_only : (ρ : Repairs) → Fits short s w p z ρ → (j : ℕ) × (ρ ≡ One j) × OneBit code j
  unfolding short repaired
  fits_only None f = absurd (uncleared m q code l h (sym (ap remainder b) ∙ f.clear))
  fits_only (One j) f = (j, refl, (cleared m q code l h j (omega (arith, f.positions))).0 (sym (ap (λ (x : List ℕ). remainder (repaired x (One j))) b) ∙ f.clear))
  fits_only (Two i j) f = absurd (omega (arith, f.few))

fits : (s : Settings) (w : Window) (p : Place) (m : List ℕ) → Squitter m → (code j : ℕ) → OneBit code j
    → w.bits Coherent p ≡ coded m code → 1 ≤ s.level → Fits short s w p Coherent (One j)
unfolding short
fits s w p m q code j o b h =
    let e : repaired (w.bits Coherent p) (One j) ≡ m = ap (λ (x : List ℕ). repaired x (One j)) b ∙ mended m q code j o in
    record {
      positions = omega (arith, o.1);
      few = omega arith;
      clear = ap remainder e ∙ q.clear;
      header = ap (good short) e ∙ q.header;
      apart = λ n. absurd (not_noncoherent n);
    }

pub replies : Replies
replies =
    record {
      uncleared = uncleared;
      cleared = cleared;
      mended = mended;
      fits_only = λ s w p z m q code l h b. fits_only s w p z m q code l h b;
      fits = fits;
    }
