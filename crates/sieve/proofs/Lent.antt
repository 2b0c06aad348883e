-- For callers that lend the hash.
--     hash_written    what is written to lent memory of its size is the hash
--     sieved_whole    WHERE THE HASH IS LENT, OR NOTHING, the outcome is that of the remainders themselves
-- Assumes nothing.
use Rattle.std.proofs.Common.{◌≡◌, ℕ, zero, suc, ◌≤◌, min, Bool, true, ltb, List, [], ◌∷◌, ◌++◌, map, length, get_or, take, drop, sym, refl, ap, ◌∙◌, inl, inr, arith, length-append, take_at, drop_at, eq-eqb}
use native.Mathlib.Decide.{ℕ_discrete}
use lib.ListN.{length-map}
use Rattle.repairs.specs.Codes.{code_up_to}
use Rattle.scan.specs.Sieve.{kept, lane_of}
use Rattle.sieve.specs.declared.hash.Shape.{Shape}
use Rattle.sieve.specs.Repairable.{repairable, repairable_at, repairable_places, code_pairs, repairable_in, repairable_into}
use Rattle.sieve.specs.Tables.{one_displacements, one_owners, one_positions, two_displacements, two_owners}
use Rattle.sieve.specs.Hash.{at_one, at_two, asks, hash_displacements, hash_owners, hash_into, hash_fits, Hashed, asked_in, sieved_into}
use Rattle.sieve.specs.Inner.{Owners}
use Rattle.sieve.proofs.Clears.{coded}
use Rattle.sieve.proofs.Owning.{asks_same}
use Rattle.sieve.proofs.Owned.{one_owners_law, two_owners_law}
use Rattle.sieve.proofs.Asking.{asked_one, asked_two, get_d_asks, length_one, length_two, length_one_owners}

pub hash_written : (ds os : List ℕ) {r : ℕ} {ds' os' : List ℕ} → length ds ≡ 2688 → length os ≡ 8704 → (r, ds', os') ≡ hash_into ds os
    → (ds' ≡ hash_displacements) × (os' ≡ hash_owners)
unfolding hash_into
hash_written ds os a b e =
    let q = rw (eq-eqb (length ds) 2688 a, eq-eqb (length os) 8704 b) at e in
    (ap (λ (p : ℕ × List ℕ × List ℕ). p.1) q, ap (λ (p : ℕ × List ℕ × List ℕ). p.2) q)

-- ---- its parts

length_positions : length one_positions ≡ 512
unfolding one_positions
length_positions = refl

length_two_owners : length two_owners ≡ 8192
unfolding two_owners
length_two_owners = refl

length_hash : length hash_displacements ≡ 2688
unfolding hash_displacements
length_hash =
    length-append one_displacements (two_displacements ++ one_positions) ∙ rw (length-append two_displacements one_positions, length_one, length_two, length_positions)

length_hash_owners : length hash_owners ≡ 8704
unfolding hash_owners
length_hash_owners = length-append one_owners two_owners ∙ rw (length_one_owners, length_two_owners)

hash_fits_law : hash_fits hash_displacements hash_owners ≡ true
unfolding hash_fits
hash_fits_law = rw (length_hash, length_hash_owners)

front : take 128 hash_displacements ≡ one_displacements
unfolding hash_displacements
front = take_at one_displacements (two_displacements ++ one_positions) 128 length_one

front_owners : take 512 hash_owners ≡ one_owners
unfolding hash_owners
front_owners = take_at one_owners two_owners 512 length_one_owners

back : take 2048 (drop 128 hash_displacements) ≡ two_displacements
unfolding hash_displacements
back =
    ap (take 2048) (drop_at one_displacements (two_displacements ++ one_positions) 128 length_one)
    ∙ take_at two_displacements one_positions 2048 length_two

back_owners : drop 512 hash_owners ≡ two_owners
unfolding hash_owners
back_owners = drop_at one_owners two_owners 512 length_one_owners

-- what is asked with the hash is what one that keeps its rule lets through
record Lets (level : ℕ) : Type 0 where
  shape : Shape
  displacements : List ℕ
  owners : List ℕ
  rule : Owners level shape displacements owners
  asked : (crcs : List ℕ) → asked_in level hash_displacements hash_owners crcs ≡ map (asks shape displacements owners) crcs

lets_of : (level : ℕ) → level ≤ 2 → Lets level
lets_of level h = elim (ℕ_discrete level 1) [
  | yes e ↦ record {
    shape = at_one;
    displacements = one_displacements;
    owners = one_owners;
    rule = rw e one_owners_law;
    asked = λ crcs. asked_one level hash_displacements hash_owners length_hash_owners e crcs ∙ rw (front, front_owners);
  }
  | no e ↦ record {
    shape = at_two;
    displacements = two_displacements;
    owners = two_owners;
    rule = record { shaped = two_owners_law.shaped; there = λ ρ p a b. two_owners_law.there ρ p a (omega arith) };
    asked = λ crcs. asked_two level hash_displacements hash_owners length_hash_owners e crcs ∙ rw (back, back_owners);
  }
]

-- ---- the same outcome

kept_same : (f g : ℕ → Bool) → ((k : ℕ) → f k ≡ g k) → (n : ℕ) → kept f n ≡ kept g n
unfolding kept
kept_same f g h zero = refl
kept_same f g h (suc n) = rw (kept_same f g h n, h n)

module _ (n : ℕ) (few : n ≤ 14) (level : ℕ) (s : Shape) (d o : List ℕ) (w : Owners level s d o) where
  code_same : (xs : List ℕ) (i : ℕ) → code_up_to n level (get_or (map (asks s d o) xs) i 0) ≡ code_up_to n level (get_or xs i 0)
  code_same xs i = ap (code_up_to n level) (get_d_asks s d o xs i) ∙ asks_same s d o level w n few (get_or xs i 0)

  repairable_same : (xs : List ℕ) (i : ℕ) → repairable n level (get_or (map (asks s d o) xs) i 0) ≡ repairable n level (get_or xs i 0)
  repairable_same xs i =
      sym (coded n few level (get_or (map (asks s d o) xs) i 0)) ∙ ap (λ (x : ℕ). ltb x 65535) (code_same xs i) ∙ coded n few level (get_or xs i 0)

  module _ (crcs others : List ℕ) where
    place_same : (k : ℕ) → repairable_at n level (map (asks s d o) crcs) (map (asks s d o) others) k ≡ repairable_at n level crcs others k
    unfolding repairable_at
    place_same k = rw (repairable_same crcs (lane_of k), repairable_same others (lane_of k))

    pairs_same : (ks : List ℕ) → code_pairs n level (map (asks s d o) crcs) (map (asks s d o) others) ks ≡ code_pairs n level crcs others ks
    unfolding code_pairs
    pairs_same [] = refl
    pairs_same (k ∷ ks) = rw (code_same crcs (lane_of k), code_same others (lane_of k), pairs_same ks)

    in_same : (many : ℕ) (list codes : List ℕ)
        → repairable_in n level many (map (asks s d o) crcs) (map (asks s d o) others) list codes ≡ repairable_in n level many crcs others list codes
    unfolding repairable_in repairable_places
    in_same many list codes =
        rw (
          kept_same (repairable_at n level (map (asks s d o) crcs) (map (asks s d o) others)) (repairable_at n level crcs others) place_same many,
          pairs_same (kept (repairable_at n level crcs others) many),
        )

into_same : (n most many level : ℕ) (crcs others list codes : List ℕ) → n ≤ 14 → Lets (min level most)
    → repairable_into n most many level (asked_in (min level most) hash_displacements hash_owners crcs) (asked_in (min level most) hash_displacements hash_owners others) list codes
    ≡ repairable_into n most many level crcs others list codes
unfolding repairable_into
into_same n most many level crcs others list codes few w =
    let f = asks w.shape w.displacements w.owners in
    rw (
      w.asked crcs,
      w.asked others,
      length-map crcs f,
      length-map others f,
      in_same n few (min level most) w.shape w.displacements w.owners w.rule crcs others many list codes,
    )

pub sieved_whole : (n most many level : ℕ) (ds os crcs others list codes : List ℕ) → n ≤ 14 → most ≤ 2 → Hashed ds os
    → sieved_into n most many level ds os crcs others list codes ≡ repairable_into n most many level crcs others list codes
unfolding sieved_into hash_fits asked_in
sieved_whole n most many level ds os crcs others list codes few h (inl (e, g)) = rw (e, g)
sieved_whole n most many level ds os crcs others list codes few h (inr (e, g)) =
    rw (e, g, hash_fits_law) (into_same n most many level crcs others list codes few (lets_of (min level most) (omega arith)))
