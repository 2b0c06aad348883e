-- Laws of a lent hash, which may hold any numbers.
--     Differ, not_both                 one of two numbers is another
--     fits_none, fits_all, fits_not    its size
--     rest                             the rest of a list, as the code takes it
--     shaped_one, shaped_two           its parts are hashes of so many bits
--     slotted_one, slotted_two         and have a slot for each remainder
--     asked_one, asked_two, asked_own, length_asked   what is asked, by what is lent
--     get_d_asks                        of the remainder at a place
--     sifted_part                      what a part gives
--     sieved_not, not_inputs, not_outputs, not_level, sieved_done   the answer
--     written                          all parts in lent memory
-- Assumes nothing.
use Rattle.std.proofs.Common.{◌≡◌, ℕ, ◌+◌, ◌-◌, ◌*◌, ◌^◌, ◌<◌, ◌≤◌, min, Bool, true, false, cond, ◌&&◌, ◌⊎◌, inl, inr, eqb, List, [], ◌++◌, map, length, get_or, take, drop, sym, refl, ap, ◌∙◌, append_assoc, append-nil, le_refl, arith, length-append, length-drop, drop_of_length-le, length-take-le, get_or-drop, take_all, get_or-take, drop-drop, take_at, drop_at, eq-eqb, ne_eqb}
use borrow.Author.Tests.{lt-leb}
use borrow.Rule.Slice.PartMut.{put_mid}
use lib.ListN.{length-map, get_or-map}
use Rattle.lists.specs.Told.{Told, refused}
use Rattle.lists.proofs.Test.{or_none}
use Rattle.annex10.proofs.UpTo.{zero_gone, gone_high}
use Rattle.repairs.specs.Codes.{code_up_to}
use Rattle.scan.specs.Sieve.{kept, lane_of}
use Rattle.sieve.specs.declared.hash.Shape.{Shape}
use Rattle.sieve.specs.Repairable.{repairable, repairable_at, refused_in, repairable_in, repairable_into}
use Rattle.sieve.specs.Tables.{one_displacements, one_owners, one_positions, two_displacements, two_owners}
use Rattle.sieve.specs.Hash.{at_one, at_two, lets, asks, hash_displacements, hash_owners, hash_into, hash_fits, asked_in, sieved_into}
use Rattle.sieve.specs.Inner.{let_in, Shaped, Slotted, Gathered, Sifted}
use Rattle.sieve.proofs.Clears.{apart, rep_none}
use Rattle.sieve.proofs.Owning.{slotted}
use Rattle.sieve.proofs.Picking.{into_done}

-- ---- its size

-- one of two numbers is another, as a chain of two tests finds it
abbrev pub Differ : ℕ → ℕ → ℕ → ℕ → Type 0
Differ m n k l = (m ≡ n → ⊥) ⊎ ((m ≡ n) × (k ≡ l → ⊥))

pub not_both : (m n k l : ℕ) → Differ m n k l → (eqb m n && eqb k l) ≡ false
not_both m n k l (inl e) = rw (ne_eqb m n e)
not_both m n k l (inr (e, g)) = rw (eq-eqb m n e, ne_eqb k l g)

pub fits_not : (ds os : List ℕ) → Differ (length ds) 0 (length os) 0 → Differ (length ds) 2688 (length os) 8704 → hash_fits ds os ≡ false
unfolding hash_fits
fits_not ds os p q = rw (not_both (length ds) 0 (length os) 0 p, not_both (length ds) 2688 (length os) 8704 q)

pub fits_none : (ds os : List ℕ) → length ds ≡ 0 → length os ≡ 0 → hash_fits ds os ≡ true
unfolding hash_fits
fits_none ds os e g = rw (e, g)

pub fits_all : (ds os : List ℕ) → length ds ≡ 2688 → length os ≡ 8704 → hash_fits ds os ≡ true
unfolding hash_fits
fits_all ds os e g = rw (e, g)

-- the rest of a list, as the code takes it
pub rest : (n : ℕ) (xs : List ℕ) → take (length xs - n) (drop n xs) ≡ drop n xs
rest n xs = take_all (length xs - n) (drop n xs) (omega (arith, length-drop n xs))

module _ (ds os : List ℕ) (a : length ds ≡ 2688) (b : length os ≡ 8704) (near : (i : ℕ) → get_or ds i 0 < 256) where
  pub shaped_one : Shaped at_one (take 128 ds) (take 512 os)
  shaped_one =
      let l : length (take 128 ds) ≡ 128 = length-take-le 128 ds (omega arith) in
      let m : length (take 512 os) ≡ 512 = length-take-le 512 os (omega arith) in
      record {
        small = omega arith;
        few = omega arith;
        bits = 9;
        width = omega arith;
        near = λ i h. rw (get_or-take 128 ds i 0 (omega arith)) (omega (arith, near i));
        many = omega arith;
        room = omega arith;
      }

  pub shaped_two : {o : List ℕ} → o ≡ drop 512 os → Shaped at_two (take 2048 (drop 128 ds)) o
  shaped_two e =
      let l : length (take 2048 (drop 128 ds)) ≡ 2048 = length-take-le 2048 (drop 128 ds) (omega (arith, length-drop 128 ds)) in
      let m : length (drop 512 os) ≡ 8192 = length-drop 512 os ∙ omega arith in
      rw e
      (record {
        small = omega arith;
        few = omega arith;
        bits = 13;
        width = omega arith;
        near = λ i h. rw (get_or-take 2048 (drop 128 ds) i 0 (omega arith), get_or-drop 128 ds i 0) (omega (arith, near (128 + i)));
        many = omega arith;
        room = omega arith;
      })

  pub slotted_one : Slotted at_one (take 128 ds) (take 512 os)
  slotted_one = slotted _ _ _ shaped_one

  pub slotted_two : {o : List ℕ} → o ≡ drop 512 os → Slotted at_two (take 2048 (drop 128 ds)) o
  slotted_two e = slotted _ _ _ (shaped_two e)

-- ---- what is asked

module _ (level : ℕ) (ds os : List ℕ) where
  pub asked_one : length os ≡ 8704 → level ≡ 1 → (crcs : List ℕ) → asked_in level ds os crcs ≡ map (asks at_one (take 128 ds) (take 512 os)) crcs
  unfolding asked_in
  asked_one e h crcs = rw (eq-eqb (length os) 8704 e, eq-eqb level 1 h)

  pub asked_two : length os ≡ 8704 → (level ≡ 1 → ⊥) → (crcs : List ℕ) → asked_in level ds os crcs ≡ map (asks at_two (take 2048 (drop 128 ds)) (drop 512 os)) crcs
  unfolding asked_in
  asked_two e h crcs = rw (eq-eqb (length os) 8704 e, ne_eqb level 1 h)

  pub asked_own : (length os ≡ 8704 → ⊥) → (crcs : List ℕ) → asked_in level ds os crcs ≡ crcs
  unfolding asked_in
  asked_own e crcs = rw (ne_eqb (length os) 8704 e)

  pub length_asked : (crcs : List ℕ) → length (asked_in level ds os crcs) ≡ length crcs
  unfolding asked_in
  length_asked crcs = go (eqb (length os) 8704) (eqb level 1)
    where
      go : (s t : Bool) → length (cond s (cond t (map (asks at_one (take 128 ds) (take 512 os)) crcs) (map (asks at_two (take 2048 (drop 128 ds)) (drop 512 os)) crcs)) crcs)
          ≡ length crcs
      go true true = length-map crcs (asks at_one (take 128 ds) (take 512 os))
      go true false = length-map crcs (asks at_two (take 2048 (drop 128 ds)) (drop 512 os))
      go false t = refl

module _ (s : Shape) (d o : List ℕ) where
  asks_zero : asks s d o 0 ≡ 0
  unfolding asks
  asks_zero = go (lets s d o 0)
    where
      go : (t : Bool) → cond t 0 (cond (eqb 0 0) 0 (2 ^ 24)) ≡ 0
      go true = refl
      go false = refl

  pub get_d_asks : (xs : List ℕ) (i : ℕ) → get_or (map (asks s d o) xs) i 0 ≡ asks s d o (get_or xs i 0)
  get_d_asks xs i = ap (get_or (map (asks s d o) xs) i) (sym asks_zero) ∙ get_or-map (asks s d o) xs i 0

  -- what is not let through is asked as what nothing clears
  asks_gone : (n level r : ℕ) → n ≤ 14 → lets s d o r ≡ false → repairable n level (asks s d o r) ≡ false
  unfolding asks
  asks_gone n level r h e = rw e (go (eqb r 0))
    where
      go : (t : Bool) → repairable n level (cond t 0 (2 ^ 24)) ≡ false
      go true = rep_none n level 0 (λ m a b. zero_gone n (apart n h) m a)
      go false = rep_none n level (2 ^ 24) (λ m a b. gone_high n (2 ^ 24) (le_refl (2 ^ 24)) m)

  asks_places : (n level : ℕ) (crcs others : List ℕ) (k : ℕ) → n ≤ 14 → let_in s d o crcs others k ≡ false
      → repairable_at n level (map (asks s d o) crcs) (map (asks s d o) others) k ≡ false
  unfolding let_in repairable_at
  asks_places n level crcs others k h e =
      let x = get_or crcs (lane_of k) 0 in
      let y = get_or others (lane_of k) 0 in
      let (p, q) = or_none (lets s d o x) (lets s d o y) e in
      rw (get_d_asks crcs (lane_of k), get_d_asks others (lane_of k), asks_gone n level x h p, asks_gone n level y h q)

  sifted_lent : (level many : ℕ) (crcs others through asked : List ℕ) (n : ℕ) → n ≤ many → length through ≡ many
      → take n through ≡ kept (let_in s d o crcs others) many → Gathered many s d o crcs others through asked n
      → Sifted level many (map (asks s d o) crcs) (map (asks s d o) others) through asked n
  sifted_lent level many crcs others through asked n h e q g =
      record {
        few = h;
        size = e;
        sizes = g.size;
        test = let_in s d o crcs others;
        places = q;
        none = λ bytes k b. asks_places bytes level crcs others k b;
        first = λ bytes m b l. ap (code_up_to bytes level) (g.first m l ∙ sym (get_d_asks crcs (lane_of (get_or through m 0))));
        second = λ bytes m b l. ap (code_up_to bytes level) (g.second m l ∙ sym (get_d_asks others (lane_of (get_or through m 0))));
      }

-- by the part of the level
pub sifted_part : (level many : ℕ) (crcs others through asked xs ys : List ℕ) (n : ℕ) (s : Shape) (d o : List ℕ) → xs ≡ map (asks s d o) crcs
    → ys ≡ map (asks s d o) others → n ≤ many → length through ≡ many → take n through ≡ kept (let_in s d o crcs others) many
    → Gathered many s d o crcs others through asked n → Sifted level many xs ys through asked n
sifted_part level many crcs others through asked xs ys n s d o e g h l q w =
    rw (e, g) (sifted_lent s d o level many crcs others through asked n h l q w)

-- ---- the answer

module _ (bytes most many level : ℕ) (ds os crcs others list codes : List ℕ) where
  pub sieved_not : hash_fits ds os ≡ false → refused_in 2 list codes ≡ sieved_into bytes most many level ds os crcs others list codes
  unfolding sieved_into
  sieved_not f = rw f

  sieved_as : {z : Told ℕ × List ℕ × List ℕ} → hash_fits ds os ≡ true
      → z ≡ repairable_into bytes most many level (asked_in (min level most) ds os crcs) (asked_in (min level most) ds os others) list codes
      → z ≡ sieved_into bytes most many level ds os crcs others list codes
  unfolding sieved_into
  sieved_as f e = e ∙ rw f

  pub not_inputs : hash_fits ds os ≡ true → Differ (length crcs) many (length others) many
      → (refused 2, list, codes) ≡ sieved_into bytes most many level ds os crcs others list codes
  unfolding repairable_into
  not_inputs f e = sieved_as f (rw (length_asked (min level most) ds os crcs, length_asked (min level most) ds os others, not_both (length crcs) many (length others) many e))

  module _ (f : hash_fits ds os ≡ true) (a : length crcs ≡ many) (b : length others ≡ many) where
    pub not_outputs : Differ (length list) many (length codes) (2 * many)
        → (refused 3, list, codes) ≡ sieved_into bytes most many level ds os crcs others list codes
    unfolding repairable_into
    not_outputs e =
        sieved_as f
        (rw (
          length_asked (min level most) ds os crcs,
          length_asked (min level most) ds os others,
          eq-eqb (length crcs) many a,
          eq-eqb (length others) many b,
          not_both (length list) many (length codes) (2 * many) e,
        ))

    pub not_level : length list ≡ many → length codes ≡ 2 * many → 2 < level
        → (refused 4, list, codes) ≡ sieved_into bytes most many level ds os crcs others list codes
    unfolding repairable_into
    not_level c d h =
        sieved_as f
        (rw (
          length_asked (min level most) ds os crcs,
          length_asked (min level most) ds os others,
          eq-eqb (length crcs) many a,
          eq-eqb (length others) many b,
          eq-eqb (length list) many c,
          eq-eqb (length codes) (2 * many) d,
          lt-leb level 2 h,
        ))

  -- where nothing is refused
  pub sieved_done : (n : ℕ) (x : Told ℕ) (ls cs : List ℕ) → hash_fits ds os ≡ true
      → length crcs ≡ many → length others ≡ many → length list ≡ many → length codes ≡ 2 * many → level ≤ 2 → n ≡ min level most
      → (x, ls, cs) ≡ repairable_in bytes n many (asked_in n ds os crcs) (asked_in n ds os others) list codes
      → (x, ls, cs) ≡ sieved_into bytes most many level ds os crcs others list codes
  sieved_done n x ls cs f a b c d h e q =
      let asked = asked_in (min level most) ds os in
      sieved_as f
      (into_done bytes most many level n (asked crcs) (asked others) list codes x ls cs
      (length_asked (min level most) ds os crcs ∙ a) (length_asked (min level most) ds os others ∙ b) c d h e
      (q ∙ ap (λ (k : ℕ). repairable_in bytes n many (asked_in k ds os crcs) (asked_in k ds os others) list codes) e))

-- ---- written to lent memory

pub length_one : length one_displacements ≡ 128
unfolding one_displacements
length_one = refl

pub length_two : length two_displacements ≡ 2048
unfolding two_displacements
length_two = refl

pub length_one_owners : length one_owners ≡ 512
unfolding one_owners
length_one_owners = refl

-- two parts, the second after the first
joined : (n : ℕ) (p q xs : List ℕ) → length p ≡ n → put_mid n (length (p ++ drop n xs) - n) (p ++ drop n xs) q ≡ p ++ q
joined n p q xs e =
    let z : drop (length (p ++ drop n xs) - n) (drop n (p ++ drop n xs)) ≡ []
    = drop_of_length-le (drop n (p ++ drop n xs)) {i = length (p ++ drop n xs) - n} (omega (arith, length-drop n (p ++ drop n xs))) in
    rw (take_at p (drop n xs) n e, z, append-nil q)

-- three, the second between the others
between : (n m : ℕ) (p q xs : List ℕ) → length p ≡ n → length q ≡ m → put_mid n m (p ++ drop n xs) q ≡ (p ++ q) ++ drop (n + m) xs
between n m p q xs e g =
    rw (take_at p (drop n xs) n e, drop_at p (drop n xs) n e, drop-drop m n xs) (sym (append_assoc p q (drop (n + m) xs)))

pub written : (ds os p q s u v : List ℕ) → length ds ≡ 2688 → length os ≡ 8704 → (p ≡ one_displacements) × (q ≡ two_displacements) × (s ≡ one_positions)
    → (u ≡ one_owners) × (v ≡ two_owners)
    → (
      0,
      put_mid 2176 (length (put_mid 128 2048 (p ++ drop 128 ds) q) - 2176) (put_mid 128 2048 (p ++ drop 128 ds) q) s,
      put_mid 512 (length (u ++ drop 512 os) - 512) (u ++ drop 512 os) v,
    )
    ≡ hash_into ds os
unfolding hash_into hash_displacements hash_owners
written ds os p q s u v a b e g =
    let l : length p ≡ 128 = ap length e.0 ∙ length_one in
    let k : length q ≡ 2048 = ap length e.1 ∙ length_two in
    let i : length (p ++ q) ≡ 2176 = length-append p q ∙ rw (l, k) in
    let m : length u ≡ 512 = ap length g.0 ∙ length_one_owners in
    rw (
      between 128 2048 p q ds l k,
      joined 2176 (p ++ q) s ds i,
      joined 512 u v os m,
      eq-eqb (length ds) 2688 a,
      eq-eqb (length os) 8704 b,
      append_assoc p q s,
      e.0,
      e.1,
      e.2,
      g.0,
      g.1,
    )
