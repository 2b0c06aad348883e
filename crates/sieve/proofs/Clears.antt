-- Laws of the remainders that at least one position and at most so many clear.
--     rep_none, rep_gone    it is none exactly where no such number of positions clears it
--     fewer_gone            of fewer bytes than 14: what no positions of 14 clear
--     coded                 it is one exactly where its code has a position
--     not_listed            AT A PLACE THAT IS NOT LISTED no such number of positions clears either remainder
-- Assumes nothing.
use Rattle.std.proofs.Common.{◌≡◌, ℕ, zero, suc, ◌+◌, ◌-◌, ◌<◌, ◌≤◌, Bool, true, false, ltb, List, get_or, sym, refl, ap, ◌∙◌, subst, true≢false, arith, lt-ltb}
use native.Mathlib.Decide.{ℕ_discrete}
use Rattle.lists.proofs.Test.{or_none}
use Rattle.annex10.specs.declared.Repairs.{Repairs}
use Rattle.annex10.specs.declared.Repairs.TheVariants.{None, One, Two}
use Rattle.annex10.specs.declared.Found.{Found}
use Rattle.annex10.specs.declared.Found.TheVariants.{At, Nothing}
use Rattle.annex10.specs.Repair.{Proper, count, Apart, clearing}
use Rattle.annex10.specs.Any.{clearing_up_to}
use Rattle.annex10.specs.Codes.{code_of}
use Rattle.annex10.proofs.Repairing.{not_there, looked_up, pattern_none}
use Rattle.annex10.proofs.Shorter.{fewer, shorter, clearing_fewer}
use Rattle.annex10.proofs.Unique.{apart_14}
use Rattle.annex10.proofs.UpTo.{ClearsUpTo, up_to_found, up_to_gone, zero_gone}
use Rattle.repairs.specs.Codes.{code_up_to}
use Rattle.scan.specs.Sieve.{lane_of}
use Rattle.sieve.specs.Repairable.{is_found, repairable, repairable_at}

pub rep_none : (n level r : ℕ) → ((m : ℕ) → 1 ≤ m → m ≤ level → clearing n m r ≡ Nothing) → repairable n level r ≡ false
unfolding repairable
rep_none n zero r h = refl
rep_none n (suc level) r h = rw (rep_none n level r (λ m a b. h m a (omega arith)), h (suc level) (omega arith) (omega arith))

not_found : (o : Found) → is_found o ≡ false → o ≡ Nothing
not_found Nothing e = refl
not_found (At ρ) e = absurd (true≢false e)

pub rep_gone : (n level r : ℕ) → repairable n level r ≡ false → (m : ℕ) → 1 ≤ m → m ≤ level → clearing n m r ≡ Nothing
unfolding repairable
rep_gone n zero r e m a b = absurd (omega arith)
rep_gone n (suc level) r e m a b = elim (ℕ_discrete m (suc level)) [
  | yes q ↦ rw q (not_found (clearing n (suc level) r) (or_none (repairable n level r) (is_found (clearing n (suc level) r)) e).1)
  | no q ↦ rep_gone n level r (or_none (repairable n level r) (is_found (clearing n (suc level) r)) e).0 m a (omega arith)
]

rep_there : (n level r m : ℕ) {ρ : Repairs} → 1 ≤ m → m ≤ level → clearing n m r ≡ At ρ → repairable n level r ≡ true
rep_there n level r m {ρ} a b e = go (repairable n level r) refl
  where
    go : (t : Bool) → repairable n level r ≡ t → t ≡ true
    go true q = refl
    go false q = not_there (sym (rep_gone n level r q m a b) ∙ e)

-- ---- at most 14 bytes

module _ (n : ℕ) (h : n ≤ 14) where
  apart_more : Apart (14 - n + n)
  apart_more = let e : 14 ≡ 14 - n + n = omega arith in subst Apart e apart_14

  pub apart : Apart n
  apart = shorter (14 - n) n apart_more

  pub fewer_gone : (m r : ℕ) → clearing 14 m r ≡ Nothing → clearing n m r ≡ Nothing
  fewer_gone m r g =
      let e : 14 - n + n ≡ 14 = omega arith in
      clearing_fewer (14 - n) n apart_more r m ∙ ap (λ (k : ℕ). fewer (14 - n) (clearing k m r)) e ∙ ap (fewer (14 - n)) g

  one_lt : (i : ℕ) → Proper n (One i) → code_of (At (One i)) < 65535
  one_lt i l = omega arith

  two_lt : (i j : ℕ) → Proper n (Two i j) → code_of (At (Two i j)) < 65535
  two_lt i j l = omega arith

  pub coded : (level r : ℕ) → ltb (code_up_to n level r) 65535 ≡ repairable n level r
  unfolding code_up_to
  coded level r = go (clearing_up_to n level r) refl
    where
      found : (ρ : Repairs) → ClearsUpTo n level r ρ → 1 ≤ count ρ → repairable n level r ≡ true
      found ρ c l = rep_there n level r (count ρ) l c.few (looked_up n r apart ρ c.clears.proper c.clears.fits)

      go : (o : Found) → clearing_up_to n level r ≡ o → ltb (code_of o) 65535 ≡ repairable n level r
      go Nothing e = sym (rep_none n level r (λ m a b. up_to_gone n r level e m b))
      go (At None) e =
          let z : r ≡ 0 = sym (up_to_found n r level e).clears.fits ∙ pattern_none n in
          sym (rep_none n level r (λ m a b. ap (λ (x : ℕ). clearing n m x) z ∙ zero_gone n apart m a))
      go (At (One j)) e =
          let c = up_to_found n r level e in
          lt-ltb _ _ (one_lt j c.clears.proper) ∙ sym (found (One j) c (omega arith))
      go (At (Two j k)) e =
          let c = up_to_found n r level e in
          lt-ltb _ _ (two_lt j k c.clears.proper) ∙ sym (found (Two j k) c (omega arith))

-- ---- places

pub not_listed : (n level : ℕ) (crcs others : List ℕ) (k : ℕ) → repairable_at n level crcs others k ≡ false → (m : ℕ) → 1 ≤ m → m ≤ level
    → (clearing n m (get_or crcs (lane_of k) 0) ≡ Nothing) × (clearing n m (get_or others (lane_of k) 0) ≡ Nothing)
unfolding repairable_at
not_listed n level crcs others k e m a b =
    let x = get_or crcs (lane_of k) 0 in
    let y = get_or others (lane_of k) 0 in
    let (p, q) = or_none (repairable n level x) (repairable n level y) e in
    (rep_gone n level x p m a b, rep_gone n level y q m a b)
