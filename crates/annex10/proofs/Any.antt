-- Laws of the positions that clear a remainder, however many, where all patterns differ.
--     any_is, any_none     what is found by one choice that fits, and where none does
--     any_found            what is found fits
--     only_any             those of them that are n are what `clearing` finds
-- Assumes nothing.
use mathlib.Core.Path.{◌≡◌, refl, sym, ap, ◌∙◌}
use Prim.Native.Nat.{ℕ, zero, suc}
use Rattle.annex10.specs.declared.Repairs.{Repairs}
use Rattle.annex10.specs.declared.Repairs.TheVariants.{None, One, Two}
use Rattle.annex10.specs.declared.Found.{Found}
use Rattle.annex10.specs.declared.Found.TheVariants.{At, Nothing}
use Rattle.annex10.specs.Repair.{count, Proper, pattern, Apart, or_else, choose, clearing}
use Rattle.annex10.specs.Any.{clearing_any, only}
use Rattle.annex10.proofs.Repairing.{Clears, found, not_found, clearing_is}

module _ (bytes r : ℕ) where
  pub any_is : Apart bytes → (ρ : Repairs) → Proper bytes ρ → pattern bytes ρ ≡ r → clearing_any bytes r ≡ At ρ
  unfolding clearing_any
  any_is a None h e = rw (clearing_is bytes r a None h e 0)
  any_is a (One j) h e = rw (clearing_is bytes r a (One j) h e 0, clearing_is bytes r a (One j) h e 1)
  any_is a (Two j k) h e =
      rw (clearing_is bytes r a (Two j k) h e 0, clearing_is bytes r a (Two j k) h e 1, clearing_is bytes r a (Two j k) h e 2)

  pub any_none : ((ρ : Repairs) → Proper bytes ρ → pattern bytes ρ ≡ r → ⊥) → clearing_any bytes r ≡ Nothing
  unfolding clearing_any
  any_none h = rw (gone 0, gone 1, gone 2)
    where
      gone : (n : ℕ) → clearing bytes n r ≡ Nothing
      gone n = not_found bytes n r (λ ρ c. h ρ c.proper c.fits)

  pub any_found : {ρ : Repairs} → clearing_any bytes r ≡ At ρ → Clears bytes (count ρ) r ρ
  unfolding clearing_any
  any_found {ρ} e = go (clearing bytes 0 r) (clearing bytes 1 r) refl refl e
    where
      of : (m : ℕ) → clearing bytes m r ≡ At ρ → Clears bytes (count ρ) r ρ
      of m q = let c = found bytes m r q in record { many = refl; proper = c.proper; fits = c.fits }

      go : (o p : Found) → clearing bytes 0 r ≡ o → clearing bytes 1 r ≡ p → or_else o (or_else p (clearing bytes 2 r)) ≡ At ρ → Clears bytes (count ρ) r ρ
      go (At σ) p x y q = of 0 (x ∙ q)
      go Nothing (At σ) x y q = of 1 (y ∙ q)
      go Nothing Nothing x y q = of 2 q

  -- there is none of any number
  all_gone : clearing bytes 0 r ≡ Nothing → clearing bytes 1 r ≡ Nothing → clearing bytes 2 r ≡ Nothing → (n : ℕ) → clearing bytes n r ≡ Nothing
  unfolding clearing choose
  all_gone a b c zero = a
  all_gone a b c (suc zero) = b
  all_gone a b c (suc (suc zero)) = c
  all_gone a b c (suc (suc (suc n))) = refl

  pub only_any : Apart bytes → (n : ℕ) → only (clearing_any bytes r) n ≡ clearing bytes n r
  unfolding clearing_any
  only_any a n = go (clearing bytes 0 r) (clearing bytes 1 r) (clearing bytes 2 r) refl refl refl
    where
      one : (m : ℕ) (ρ : Repairs) → clearing bytes m r ≡ At ρ → only (clearing_any bytes r) n ≡ clearing bytes n r
      one m ρ e =
          let c = found bytes m r e in
          ap (λ (o : Found). only o n) (any_is a ρ c.proper c.fits) ∙ sym (clearing_is bytes r a ρ c.proper c.fits n)

      go : (o p q : Found) → clearing bytes 0 r ≡ o → clearing bytes 1 r ≡ p → clearing bytes 2 r ≡ q
          → only (clearing_any bytes r) n ≡ clearing bytes n r
      go (At ρ) p q x y z = one 0 ρ x
      go Nothing (At ρ) q x y z = one 1 ρ y
      go Nothing Nothing (At ρ) x y z = one 2 ρ z
      go Nothing Nothing Nothing x y z = rw (x, y, z) (sym (all_gone x y z n))
