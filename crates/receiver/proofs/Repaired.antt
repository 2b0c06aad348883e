-- The second stage: the places that repairs can clear.
--     repaired-front, repaired-listing   the list of them, and what clears them
--     repaired_best                      the search over it, where nothing was found without repairs
-- Assumes nothing.
use Rattle.std.specs.Prelude as code
use Rattle.std.specs.Result.{result_unwrap_or}
use mathlib.Core.Path.{◌≡◌, refl, sym, ap, ◌∙◌}
use mathlib.Core.Bool.{Bool, true, false}
use mathlib.Core.List.{List, [], ◌∷◌, ◌++◌}
use mathlib.Core.Option.{none}
use Prim.Native.Nat.{ℕ, zero, suc, ◌+◌, ◌*◌, ◌/◌, ◌%◌, ◌<◌, ◌≤◌, min}
use native.Mathlib.Omega.{arith}
use borrow.Author.Tests.{eq-eqb, ne_eqb, le-leb, lt-leb, eqb-true}
use lib.Dec.{eqb}
use lib.ListN.{length, get_or, take, drop, length-append, length-drop, get_or-append}
use lib.Ieee.{Float}
use Rattle.annex10.specs.Remainder.{remainder}
use Rattle.annex10.specs.Any.{only, clearing_up_to}
use Rattle.annex10.specs.Repair.{Proper, clearing}
use Rattle.annex10.specs.Codes.{code_of}
use Rattle.annex10.specs.declared.Repairs.{Repairs}
use Rattle.annex10.specs.declared.Repairs.TheVariants.{None, One, Two}
use Rattle.annex10.specs.declared.Found.{Found}
use Rattle.annex10.specs.declared.Found.TheVariants.{At, Nothing}
use Rattle.annex10.proofs.Positions.{proper_inside}
use Rattle.annex10.proofs.UpTo.{up_to_found, only_up_to, up_to_zero}
use Rattle.repairs.specs.Codes.{code_up_to, codes_up_to, codes_up_to_into}
use Rattle.scan.specs.Sieve.{kept, lane_of, onto}
use Rattle.lists.specs.Told.{Told}
use Rattle.refusals.specs.declared.Refusal.{Refusal}
use Rattle.refusals.specs.Refusals.{told}
use Rattle.sieve.specs.Repairable.{repairable_at, repairable_places, code_pairs, repairable_in, repairable_into}
use Rattle.sieve.proofs.Clears.{not_listed}
use Rattle.scan.proofs.Starting.{crc_start}
use Rattle.lists.specs.From.{from, tabulate}
use Rattle.lists.proofs.Members.{member_of}
use Rattle.place.specs.declared.Slicer.TheVariants.{Coherent, Noncoherent}
use Rattle.place.specs.All.{place_at}
use Rattle.search.specs.declared.Settings.{Settings}
use Rattle.search.specs.declared.Candidate.{Candidate}
use Rattle.search.specs.Trials.{cleared}
use Rattle.search.specs.Choice.{candidate_at, best}
use Rattle.search.specs.Kinds.{Kind}
use Rattle.search.specs.Seen.{bits_at, window_of, seen}
use Rattle.search.proofs.Scanning.{scan_none}
use Rattle.search.proofs.Staging.{at_level, later_none}
use Rattle.receiver.specs.Inner.{held_of, Scanned, Finds, found_inside, repairs_of, found_of, found_by, Listing, over}
use Rattle.receiver.proofs.Never.{unwrapped}
use Rattle.receiver.proofs.EitherKind.{Right}
use Rattle.receiver.proofs.Finding.{best_is}
use Rattle.receiver.proofs.Listed.{Front, front_of, searched}

-- ---- what clears a remainder, from its code

module _ (k : Kind) (w : Right k) where
  abbrev n : ℕ
  n = k.bytes

  code_back : (ρ : Repairs) → Proper n ρ → found_of (code_of (At ρ)) ≡ At ρ
  unfolding found_of repairs_of
  code_back None h = refl
  code_back (One j) h =
      let l : j < 112 = omega (arith, w.high) in
      let a : (j * 256 + 255) / 256 ≡ j = omega arith in
      let b : (j * 256 + 255) % 256 ≡ 255 = omega arith in
      simp (lt-leb 65536 (j * 256 + 255) (omega arith), a, b, ne_eqb j 255 (λ e. omega arith))
  code_back (Two i j) h =
      let l : (i < 112) × (j < 112) = (omega (arith, w.high), omega (arith, w.high)) in
      let a : (i * 256 + j) / 256 ≡ i = omega arith in
      let b : (i * 256 + j) % 256 ≡ j = omega arith in
      simp (lt-leb 65536 (i * 256 + j) (omega arith), a, b, ne_eqb i 255 (λ e. omega arith), ne_eqb j 255 (λ e. omega arith))

  module _ (level r : ℕ) where
    code_says : (o : Found) → clearing_up_to n level r ≡ o → found_of (code_up_to n level r) ≡ o
    unfolding code_up_to found_of
    code_says Nothing e = rw e
    code_says (At ρ) e = rw e (code_back ρ (up_to_found n r level e).clears.proper)

    by_code : (b : Bool) → eqb r 0 ≡ b → found_by r (code_up_to n level r) ≡ clearing_up_to n level r
    unfolding found_by
    by_code true e = rw e (sym (ap (clearing_up_to n level) (eqb-true r 0 e) ∙ up_to_zero n w.apart level))
    by_code false e = rw e (code_says (clearing_up_to n level r) refl)

    lies_inside : (o : Found) → clearing_up_to n level r ≡ o → found_inside k o ≡ true
    lies_inside Nothing e = refl
    lies_inside (At ρ) e = proper_inside n ρ (up_to_found n r level e).clears.proper

    pub code_finds : Finds k level r (found_by r (code_up_to n level r))
    code_finds =
        let q = by_code (eqb r 0) refl in
        record {
          each = λ m l. ap (λ (o : Found). only o m) q ∙ only_up_to n r w.apart level m l;
          lies = ap (found_inside k) q ∙ lies_inside (clearing_up_to n level r) refl;
        }

  -- the codes of two remainders
  pub two_codes : (most level x y : ℕ) (codes : List ℕ) {number : ℕ} {out : List ℕ} → length codes ≡ 2 → level ≤ 2
      → ◌≡◌ {A = ℕ × List ℕ} (number, out) (codes_up_to_into n most level (x ∷ y ∷ []) codes) → out ≡ code_up_to n (min level most) x ∷ code_up_to n (min level most) y ∷ []
  unfolding codes_up_to_into codes_up_to tabulate from
  two_codes most level x y codes h l e = ap (λ (z : ℕ × List ℕ). z.1) (simp (eq-eqb _ _ h, le-leb _ _ l) at e)

  -- what clears the two remainders at a place, asked for alone
  pub record Asked (level : ℕ) (crcs others codes : List ℕ) (j : ℕ) : Type 0 where
    pub first : Finds k level (get_or crcs j 0) (found_by (get_or crcs j 0) (get_or codes 0 0))
    pub second : Finds k level (get_or others j 0) (found_by (get_or others j 0) (get_or codes 1 0))

  pub both_asked : (crcs others : List ℕ) (level i j : ℕ) {codes : List ℕ} → i ≡ j → codes ≡ code_up_to n level (get_or crcs i 0) ∷ code_up_to n level (get_or others i 0) ∷ []
      → Asked level crcs others codes j
  both_asked crcs others level i j z e =
      rw (e, z) (record { first = code_finds level (get_or crcs j 0); second = code_finds level (get_or others j 0) })

-- ---- the codes of the places

module _ (n level : ℕ) (crcs others : List ℕ) where
  pairs_length : (ks : List ℕ) → length (code_pairs n level crcs others ks) ≡ 2 * length ks
  unfolding code_pairs
  pairs_length [] = refl
  pairs_length (k ∷ ks) = let e = pairs_length ks in omega (arith, e)

  first_pair : (ks : List ℕ) (q : ℕ) → q < length ks → get_or (code_pairs n level crcs others ks) (2 * q) 0 ≡ code_up_to n level (get_or crcs (lane_of (get_or ks q 0)) 0)
  unfolding code_pairs
  first_pair [] q h = absurd (omega arith)
  first_pair (k ∷ ks) zero h = refl
  first_pair (k ∷ ks) (suc q) h =
      let e : 2 * suc q ≡ suc (suc (2 * q)) = omega arith in
      rw e (first_pair ks q (omega arith))

  second_pair : (ks : List ℕ) (q : ℕ) → q < length ks → get_or (code_pairs n level crcs others ks) (2 * q + 1) 0 ≡ code_up_to n level (get_or others (lane_of (get_or ks q 0)) 0)
  unfolding code_pairs
  second_pair [] q h = absurd (omega arith)
  second_pair (k ∷ ks) zero h = refl
  second_pair (k ∷ ks) (suc q) h =
      let e : 2 * suc q + 1 ≡ suc (suc (2 * q + 1)) = omega arith in
      rw e (second_pair ks q (omega arith))

-- ---- the list

pub record Taken (k : Kind) (level : ℕ) (crcs others list codes : List ℕ) (count : ℕ) : Type 0 where
  pub front : Front (8 * k.last) (repairable_at k.bytes level crcs others) list count
  pub listing : Listing k level crcs others list codes count

module _ (k : Kind) (w : Right k) (crcs others : List ℕ) where
  front_taken : (level : ℕ) (ks list codes : List ℕ) → Front (8 * k.last) (repairable_at k.bytes level crcs others) (onto ks list) (length ks) → length codes ≡ 16 * k.last
      → Taken k level crcs others (onto ks list) (onto (code_pairs k.bytes level crcs others ks) codes) (length ks)
  unfolding onto
  front_taken level ks list codes f h =
      let ps = code_pairs k.bytes level crcs others ks in
      let m : length ps ≡ 2 * length ks = pairs_length k.bytes level crcs others ks in
      let at : (q : ℕ) → q < length ks → get_or (ks ++ drop (length ks) list) q 0 ≡ get_or ks q 0 = λ q l. get_or-append ks (drop (length ks) list) 0 q l in
      record {
        front = f;
        listing =
            record {
              few = f.few;
              places = f.size;
              many = length-append ps (drop (length ps) codes) ∙ rw (length-drop (length ps) codes) (omega (arith, m, f.few, h));
              low = f.low;
              first = λ q l.
                  rw (at q l, get_or-append ps (drop (length ps) codes) 0 (2 * q) (omega (arith, m)), first_pair k.bytes level crcs others ks q l)
                  (code_finds k w level (get_or crcs (lane_of (get_or ks q 0)) 0));
              second = λ q l.
                  rw (at q l, get_or-append ps (drop (length ps) codes) 0 (2 * q + 1) (omega (arith, m)), second_pair k.bytes level crcs others ks q l)
                  (code_finds k w level (get_or others (lane_of (get_or ks q 0)) 0));
            };
      }

  pub repaired_taken : (level : ℕ) (list codes : List ℕ) (r : code.Result ℕ Refusal) {count : ℕ} {out coded : List ℕ} → length crcs ≡ 8 * k.last → length others ≡ 8 * k.last
      → length list ≡ 8 * k.last → length codes ≡ 16 * k.last → level ≤ 2
      → ◌≡◌ {A = Told ℕ × List ℕ × List ℕ} (told r, out, coded) (repairable_into k.bytes k.most (8 * k.last) level crcs others list codes)
      → count ≡ result_unwrap_or r 0 → Taken k (min level k.most) crcs others out coded count
  unfolding repairable_into repairable_in repairable_places
  repaired_taken level list codes r a b c d l e f =
      let i : length codes ≡ 2 * (8 * k.last) = omega (arith, d) in
      let q = simp (eq-eqb _ _ a, eq-eqb _ _ b, eq-eqb _ _ c, eq-eqb _ _ i, le-leb _ _ l) at e in
      let t = repairable_at k.bytes (min level k.most) crcs others in
      rw (
        unwrapped r 0 f (ap (λ (y : Told ℕ × List ℕ × List ℕ). y.0) q),
        ap (λ (y : Told ℕ × List ℕ × List ℕ). y.1) q,
        ap (λ (y : Told ℕ × List ℕ × List ℕ). y.2) q,
      )
      (front_taken (min level k.most) (kept t (8 * k.last)) list codes (front_of (8 * k.last) t list c) d)

-- ---- the search over it

module _ (k : Kind) (r : Right k) (samples : List Float) (coherent noncoherent crcs others : List ℕ) (w : Scanned k samples coherent noncoherent crcs others) where
  ends : k.last + 8 * k.bytes < 144
  ends = omega (arith, r.last)

  first_crc : (i : ℕ) → i < 8 * k.last → get_or crcs (lane_of i) 0 ≡ remainder (bits_at k.bytes samples Coherent (place_at i))
  first_crc i h = ap (λ (x : List ℕ). get_or x (lane_of i) 0) w.first_crcs ∙ crc_start k.bytes k.last i ends h Coherent samples

  second_crc : (i : ℕ) → i < 8 * k.last → get_or others (lane_of i) 0 ≡ remainder (bits_at k.bytes samples Noncoherent (place_at i))
  second_crc i h = ap (λ (x : List ℕ). get_or x (lane_of i) 0) w.second_crcs ∙ crc_start k.bytes k.last i ends h Noncoherent samples

  -- nothing was found without repairs
  without : (s : Settings) → best k (at_level 0 s) (seen k samples) ≡ none → (i : ℕ) → i < 8 * k.last → candidate_at k (at_level 0 s) (seen k samples) (place_at i) ≡ none
  without s e i h =
      (scan_none (candidate_at k (at_level 0 s) (seen k samples)) (tabulate (8 * k.last) place_at)).0 (best_is k (at_level 0 s) (seen k samples) ∙ e) (place_at i)
      (member_of place_at (8 * k.last) i h)

  left : (s : Settings) → best k (at_level 0 s) (seen k samples) ≡ none → (i : ℕ) → i < 8 * k.last
      → repairable_at k.bytes (min s.level k.most) crcs others i ≡ false → candidate_at k s (seen k samples) (place_at i) ≡ none
  unfolding cleared window_of
  left s e i h t =
      later_none k s (seen k samples) (place_at i) (without s e i h)
      (λ m a b.
      let (x, y) = not_listed k.bytes (min s.level k.most) crcs others i t m a b in
      (ap (clearing k.bytes m) (sym (first_crc i h)) ∙ x, ap (clearing k.bytes m) (sym (second_crc i h)) ∙ y))

  pub repaired_best : (s : Settings) {list : List ℕ} {count : ℕ} {x : code.Option Candidate} → best k (at_level 0 s) (seen k samples) ≡ none
      → Front (8 * k.last) (repairable_at k.bytes (min s.level k.most) crcs others) list count
      → x ≡ held_of k (over (candidate_at k s (seen k samples)) place_at none (take count list)) → x ≡ held_of k (best k s (seen k samples))
  repaired_best s {list} {count} z f e =
      e ∙ ap (held_of k)
      (searched (candidate_at k s (seen k samples)) (8 * k.last) (repairable_at k.bytes (min s.level k.most) crcs others) list count f (left s z)
      ∙ best_is k s (seen k samples))
