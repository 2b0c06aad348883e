-- Laws of the positions that clear a remainder, at most so many.
--     none_found, one_found      the fewest first: what is found with no position, and with one, is found at every level that asks for it
--     none_asked, one_asked, two_asked     what is found at each level where fewer clear nothing
--     cleared_up_to              what clears with at most so many is such a search
--     up_to_two                  at level 2 they are those of any number
--     up_to_found                what is found fits and is no more than the level
--     up_to_gone, up_to_none     where nothing is found, no number of positions clears, and back
--     only_up_to                 those of them that are n, up to the level, are what `clearing` finds
--     none_not_zero, up_to_zero  no position clears 0, and nothing else
--     zero_gone                  no other number clears it
--     gone_high                  no pattern has more than 24 bits
-- Assumes nothing.
use mathlib.Core.Path.{◌≡◌, refl, sym, ◌∙◌, subst}
use mathlib.Core.Logic.{◌≢◌}
use Prim.Native.Nat.{ℕ, zero, suc, ◌^◌, ◌≤◌, ◌<◌}
use native.Mathlib.Nat.{lt_irrefl, lt_of_lt_of_le}
use native.Mathlib.Omega.{arith}
use native.Mathlib.Decide.{ℕ_discrete}
use borrow.Author.Tests.{ne_eqb}
use Rattle.annex10.specs.declared.Repairs.{Repairs}
use Rattle.annex10.specs.declared.Repairs.TheVariants.{None, One, Two}
use Rattle.annex10.specs.declared.Found.{Found}
use Rattle.annex10.specs.declared.Found.TheVariants.{At, Nothing}
use Rattle.annex10.specs.Repair.{count, pattern, Apart, or_else, clearing}
use Rattle.annex10.specs.Any.{clearing_any, up_to, clearing_up_to, only}
use Rattle.annex10.proofs.Linear.{remainder_lt}
use Rattle.annex10.proofs.Repairing.{Clears, found, not_found, not_there, clearing_is, pattern_none}

-- ρ clears r and has at most so many positions
pub record ClearsUpTo (bytes level r : ℕ) (ρ : Repairs) : Type 0 where
  pub few : count ρ ≤ level
  pub clears : Clears bytes (count ρ) r ρ

-- ---- the fewest first, whatever f finds

module _ (f : ℕ → Found) (level : ℕ) where
  pub none_found : {ρ : Repairs} → f 0 ≡ At ρ → up_to f level ≡ At ρ
  unfolding up_to
  none_found {ρ} e = go level
    where
      go : (n : ℕ) → up_to f n ≡ At ρ
      go zero = e
      go (suc n) = rw (go n)

  pub none_asked : f 0 ≡ Nothing → level ≡ 0 → up_to f level ≡ Nothing
  unfolding up_to
  none_asked e l = rw (l, e)

  pub one_asked : f 0 ≡ Nothing → level ≡ 1 → up_to f level ≡ f 1
  unfolding up_to
  one_asked e l = rw (l, e)

  pub two_asked : f 0 ≡ Nothing → f 1 ≡ Nothing → level ≡ 2 → up_to f level ≡ f 2
  unfolding up_to
  two_asked e g l = rw (l, e, g)

  pub one_found : {ρ : Repairs} → f 0 ≡ Nothing → f 1 ≡ At ρ → level ≢ 0 → up_to f level ≡ At ρ
  unfolding up_to
  one_found {ρ} e g l = go level l
    where
      go : (n : ℕ) → n ≢ 0 → up_to f n ≡ At ρ
      go zero h = absurd (h refl)
      go (suc zero) h = rw (e, g)
      go (suc (suc n)) h = rw (go (suc n) (λ z. omega arith))

-- ---- what clears a remainder

-- with at most so many positions, as a search for the fewest
pub cleared_up_to : (bytes level r : ℕ) → clearing_up_to bytes level r ≡ up_to (λ n. clearing bytes n r) level
unfolding clearing_up_to up_to
cleared_up_to bytes zero r = refl
cleared_up_to bytes (suc level) r = rw (cleared_up_to bytes level r)

module _ (bytes r : ℕ) where
  pub up_to_two : clearing_up_to bytes 2 r ≡ clearing_any bytes r
  unfolding clearing_up_to clearing_any
  up_to_two = go (clearing bytes 0 r) (clearing bytes 1 r)
    where
      go : (o p : Found) → or_else (or_else o p) (clearing bytes 2 r) ≡ or_else o (or_else p (clearing bytes 2 r))
      go (At ρ) p = refl
      go Nothing p = refl

  of : (n level : ℕ) {ρ : Repairs} → n ≤ level → clearing bytes n r ≡ At ρ → ClearsUpTo bytes level r ρ
  of n level h e =
      let c = found bytes n r e in
      record { few = subst (λ (m : ℕ). m ≤ level) (sym c.many) h; clears = record { many = refl; proper = c.proper; fits = c.fits } }

  pub up_to_found : (level : ℕ) {ρ : Repairs} → clearing_up_to bytes level r ≡ At ρ → ClearsUpTo bytes level r ρ
  unfolding clearing_up_to up_to
  up_to_found zero e = of 0 0 (omega arith) e
  up_to_found (suc level) {ρ} e = go (λ q. up_to_found level q) (clearing_up_to bytes level r) refl e
    where
      go : (clearing_up_to bytes level r ≡ At ρ → ClearsUpTo bytes level r ρ) → (o : Found) → clearing_up_to bytes level r ≡ o
          → or_else o (clearing bytes (suc level) r) ≡ At ρ → ClearsUpTo bytes (suc level) r ρ
      go ih Nothing q w = of (suc level) (suc level) (omega arith) w
      go ih (At σ) q w = let c = ih (q ∙ w) in record { few = omega (arith, c.few); clears = c.clears }

  pub up_to_gone : (level : ℕ) → clearing_up_to bytes level r ≡ Nothing → (n : ℕ) → n ≤ level → clearing bytes n r ≡ Nothing
  unfolding clearing_up_to up_to
  up_to_gone zero e n h = let z : n ≡ 0 = omega arith in rw z e
  up_to_gone (suc level) e n h = go (λ q. up_to_gone level q n) (clearing_up_to bytes level r) refl e
    where
      go : (clearing_up_to bytes level r ≡ Nothing → n ≤ level → clearing bytes n r ≡ Nothing) → (o : Found) → clearing_up_to bytes level r ≡ o
          → or_else o (clearing bytes (suc level) r) ≡ Nothing → clearing bytes n r ≡ Nothing
      go ih (At σ) q w = not_there (sym w)
      go ih Nothing q w = elim (ℕ_discrete n (suc level)) [ yes z ↦ rw z w | no z ↦ ih q (omega arith) ]

  pub up_to_none : (level : ℕ) → ((n : ℕ) → n ≤ level → clearing bytes n r ≡ Nothing) → clearing_up_to bytes level r ≡ Nothing
  unfolding clearing_up_to up_to
  up_to_none zero h = h 0 (omega arith)
  up_to_none (suc level) h = rw (up_to_none level (λ n l. h n (omega arith)), h (suc level) (omega arith))

  pub only_up_to : Apart bytes → (level n : ℕ) → n ≤ level → only (clearing_up_to bytes level r) n ≡ clearing bytes n r
  only_up_to a level n h = go (clearing_up_to bytes level r) refl
    where
      go : (o : Found) → clearing_up_to bytes level r ≡ o → only o n ≡ clearing bytes n r
      go Nothing e = sym (up_to_gone level e n h)
      go (At ρ) e = let c = (up_to_found level e).clears in sym (clearing_is bytes r a ρ c.proper c.fits n)

  pub none_not_zero : (r ≡ 0 → ⊥) → clearing bytes 0 r ≡ Nothing
  none_not_zero h = not_found bytes 0 r go
    where
      go : (ρ : Repairs) → Clears bytes 0 r ρ → ⊥
      go None c = h (sym c.fits ∙ pattern_none bytes)
      go (One j) c = omega (arith, c.many)
      go (Two j k) c = omega (arith, c.many)

  -- a pattern has at most 24 bits
  pub gone_high : 2 ^ 24 ≤ r → (n : ℕ) → clearing bytes n r ≡ Nothing
  unfolding pattern
  gone_high h n = not_found bytes n r (λ ρ c. lt_irrefl _ (lt_of_lt_of_le (subst (λ (x : ℕ). x < 2 ^ 24) c.fits (remainder_lt _)) h))

-- 0 is cleared by no position, and by nothing else
pub up_to_zero : (bytes : ℕ) → Apart bytes → (level : ℕ) → clearing_up_to bytes level 0 ≡ At None
unfolding clearing_up_to up_to
up_to_zero bytes a zero = clearing_is bytes 0 a None tt (pattern_none bytes) 0
up_to_zero bytes a (suc level) = rw (up_to_zero bytes a level)

pub zero_gone : (bytes : ℕ) → Apart bytes → (n : ℕ) → 1 ≤ n → clearing bytes n 0 ≡ Nothing
zero_gone bytes a n h = clearing_is bytes 0 a None tt (pattern_none bytes) n ∙ rw (ne_eqb n 0 (λ e. omega arith))
