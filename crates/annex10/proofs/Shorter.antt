-- Fewer bytes: k zero bytes in front change no remainder, and move each position by 8 k.
--     pattern_later                 so the moved positions have the same pattern
--     shorter                       where all patterns of some bytes differ, those of fewer bytes do
--     clearing_fewer, up_to_fewer   what clears a remainder of fewer bytes, from what clears it of more
-- Assumes nothing.
use mathlib.Core.Path.{◌≡◌, refl, sym, ap, ap₂, ◌∙◌, subst}
use mathlib.Core.Bool.{Bool, true, false, cond}
use mathlib.Core.List.{List, ◌∷◌, ◌++◌}
use mathlib.Core.Logic.{◌⊎◌, inl, inr}
use Prim.Native.Nat.{ℕ, zero, suc, ◌+◌, ◌-◌, ◌*◌, ◌/◌, ◌%◌}
use native.Mathlib.Omega.{arith}
use borrow.Author.Tests.{le-ltb, ltb-false, ne_eqb}
use lib.Dec.{ltb}
use lib.ListN.{replicate, replicate-append-replicate}
use Rattle.annex10.specs.Remainder.{remainder}
use Rattle.annex10.specs.Flip.{flip}
use Rattle.annex10.specs.declared.Repairs.{Repairs}
use Rattle.annex10.specs.declared.Repairs.TheVariants.{None, One, Two}
use Rattle.annex10.specs.declared.Found.{Found}
use Rattle.annex10.specs.declared.Found.TheVariants.{At, Nothing}
use Rattle.annex10.specs.Repair.{count, Proper, repaired, pattern, Apart, or_else, clearing}
use Rattle.annex10.specs.Any.{up_to, clearing_up_to}
use Rattle.annex10.proofs.Repairing.{Clears, found, not_there, looked_up, not_found, clearing_is}
use Rattle.annex10.proofs.UpTo.{up_to_found}

-- the positions behind k bytes more
pub later : ℕ → Repairs → Repairs
later k None = None
later k (One j) = One (8 * k + j)
later k (Two i j) = Two (8 * k + i) (8 * k + j)

-- and without these bytes; nothing where a position lies in them. Of two the first does, if one does
abbrev pub earlier : ℕ → Repairs → Found
earlier k None = At None
earlier k (One j) = cond (ltb j (8 * k)) Nothing (At (One (j - 8 * k)))
earlier k (Two i j) = cond (ltb i (8 * k)) Nothing (At (Two (i - 8 * k) (j - 8 * k)))

abbrev pub fewer : ℕ → Found → Found
fewer k Nothing = Nothing
fewer k (At ρ) = earlier k ρ

flip_later : (k : ℕ) (m : List ℕ) (j : ℕ) → flip (replicate k 0 ++ m) (8 * k + j) ≡ replicate k 0 ++ flip m j
unfolding flip
flip_later zero m j = let e : 8 * 0 + j ≡ j = omega arith in ap (flip m) e
flip_later (suc k) m j =
    let e : (8 * suc k + j) / 8 ≡ suc ((8 * k + j) / 8) = omega arith in
    let f : (8 * suc k + j) % 8 ≡ (8 * k + j) % 8 = omega arith in
    rw (e, f) (ap (λ (l : List ℕ). 0 ∷ l) (flip_later k m j))

remainder_later : (k : ℕ) (m : List ℕ) → remainder (replicate k 0 ++ m) ≡ remainder m
unfolding remainder
remainder_later zero m = refl
remainder_later (suc k) m = remainder_later k m

count_later : (k : ℕ) (ρ : Repairs) → count (later k ρ) ≡ count ρ
unfolding later
count_later k None = refl
count_later k (One j) = refl
count_later k (Two i j) = refl

back : (k : ℕ) (ρ : Repairs) → earlier k (later k ρ) ≡ At ρ
unfolding later
back k None = refl
back k (One j) =
    let e : 8 * k + j - 8 * k ≡ j = omega arith in
    rw (le-ltb (8 * k + j) (8 * k) (omega arith), e)
back k (Two i j) =
    let e : 8 * k + i - 8 * k ≡ i = omega arith in
    let f : 8 * k + j - 8 * k ≡ j = omega arith in
    rw (le-ltb (8 * k + i) (8 * k) (omega arith), e, f)

module _ (k bytes : ℕ) where
  proper_later : (ρ : Repairs) → Proper bytes ρ → Proper (k + bytes) (later k ρ)
  unfolding later
  proper_later None h = tt
  proper_later (One j) h = omega arith
  proper_later (Two i j) h = (omega arith, omega arith)

  proper_back : (ρ : Repairs) → Proper (k + bytes) (later k ρ) → Proper bytes ρ
  unfolding later
  proper_back None h = tt
  proper_back (One j) h = omega arith
  proper_back (Two i j) h = (omega arith, omega arith)

  -- positions of more bytes are later ones, or lie in the bytes in front
  split : (ρ : Repairs) → Proper (k + bytes) ρ → ((σ : Repairs) × (later k σ ≡ ρ) × (earlier k ρ ≡ At σ)) ⊎ (earlier k ρ ≡ Nothing)
  unfolding later
  split None h = inl (None, refl, refl)
  split (One j) h = go (ltb j (8 * k)) refl
    where
      go : (b : Bool) → ltb j (8 * k) ≡ b
          → ((σ : Repairs) × (later k σ ≡ One j) × (cond b Nothing (At (One (j - 8 * k))) ≡ At σ)) ⊎ (cond b Nothing (At (One (j - 8 * k))) ≡ Nothing)
      go true e = inr refl
      go false e = let q : 8 * k + (j - 8 * k) ≡ j = omega (arith, ltb-false j (8 * k) e) in inl (One (j - 8 * k), ap One q, refl)
  split (Two i j) h = go (ltb i (8 * k)) refl
    where
      both : Found
      both = At (Two (i - 8 * k) (j - 8 * k))

      go : (b : Bool) → ltb i (8 * k) ≡ b → ((σ : Repairs) × (later k σ ≡ Two i j) × (cond b Nothing both ≡ At σ)) ⊎ (cond b Nothing both ≡ Nothing)
      go true e = inr refl
      go false e =
          let q : 8 * k + (i - 8 * k) ≡ i = omega (arith, ltb-false i (8 * k) e) in
          let p : 8 * k + (j - 8 * k) ≡ j = omega (arith, ltb-false i (8 * k) e, h.0) in
          inl (Two (i - 8 * k) (j - 8 * k), ap₂ Two q p, refl)

  repaired_later : (ρ : Repairs) → repaired (replicate (k + bytes) 0) (later k ρ) ≡ replicate k 0 ++ repaired (replicate bytes 0) ρ
  unfolding repaired later
  repaired_later None = sym (replicate-append-replicate k bytes 0)
  repaired_later (One j) = rw (← replicate-append-replicate {A = ℕ} k bytes 0) (flip_later k (replicate bytes 0) j)
  repaired_later (Two i j) =
      rw (← replicate-append-replicate {A = ℕ} k bytes 0)
      (ap (λ (m : List ℕ). flip m (8 * k + j)) (flip_later k (replicate bytes 0) i) ∙ flip_later k (flip (replicate bytes 0) i) j)

  pub pattern_later : (ρ : Repairs) → pattern (k + bytes) (later k ρ) ≡ pattern bytes ρ
  unfolding pattern
  pattern_later ρ = ap remainder (repaired_later ρ) ∙ remainder_later k (repaired (replicate bytes 0) ρ)

  pub shorter : Apart (k + bytes) → Apart bytes
  shorter a =
      record {
        same = λ ρ σ h g e.
            one (sym (back k ρ)
            ∙ ap (earlier k) (a.same (later k ρ) (later k σ) (proper_later ρ h) (proper_later σ g) (pattern_later ρ ∙ e ∙ sym (pattern_later σ)))
            ∙ back k σ);
      }
    where
      one : {ρ σ : Repairs} → At ρ ≡ At σ → ρ ≡ σ
      one e = cc

  -- ---- what clears a remainder

  module _ (a : Apart (k + bytes)) (r : ℕ) where
    clears_later : (n : ℕ) (ρ : Repairs) → Clears bytes n r ρ → Clears (k + bytes) n r (later k ρ)
    clears_later n ρ c =
        record { many = count_later k ρ ∙ c.many; proper = proper_later ρ c.proper; fits = pattern_later ρ ∙ c.fits }

    -- what clears the more bytes is known, and so is what clears the fewer
    by_one : (n : ℕ) (ρ : Repairs) → Clears (k + bytes) n r ρ → clearing bytes n r ≡ earlier k ρ
    by_one n ρ c = go (split ρ c.proper)
      where
        go : ((σ : Repairs) × (later k σ ≡ ρ) × (earlier k ρ ≡ At σ)) ⊎ (earlier k ρ ≡ Nothing) → clearing bytes n r ≡ earlier k ρ
        go (inl (σ, e, q)) =
            let m : count σ ≡ n = sym (count_later k σ) ∙ ap count e ∙ c.many in
            let h = proper_back σ (subst (Proper (k + bytes)) (sym e) c.proper) in
            subst (λ (x : ℕ). clearing bytes x r ≡ At σ) m
            (looked_up bytes r (shorter a) σ h (sym (pattern_later σ) ∙ ap (pattern (k + bytes)) e ∙ c.fits)) ∙ sym q
        go (inr q) =
            not_found bytes n r
            (λ σ d. let l = clears_later n σ d in
            not_there (sym q ∙ ap (earlier k) (a.same ρ (later k σ) c.proper l.proper (c.fits ∙ sym l.fits)) ∙ back k σ))
            ∙ sym q

    pub clearing_fewer : (n : ℕ) → clearing bytes n r ≡ fewer k (clearing (k + bytes) n r)
    clearing_fewer n = go (clearing (k + bytes) n r) refl
      where
        go : (o : Found) → clearing (k + bytes) n r ≡ o → clearing bytes n r ≡ fewer k o
        go Nothing e =
            not_found bytes n r
            (λ ρ c. let l = clears_later n ρ c in
            not_there (sym (subst (λ (x : ℕ). clearing (k + bytes) x r ≡ Nothing) (sym l.many) e) ∙ looked_up (k + bytes) r a (later k ρ) l.proper l.fits))
        go (At ρ) e = by_one n ρ (found (k + bytes) n r e)

    pub up_to_fewer : (level : ℕ) → clearing_up_to bytes level r ≡ fewer k (clearing_up_to (k + bytes) level r)
    unfolding clearing_up_to up_to
    up_to_fewer zero = clearing_fewer 0
    up_to_fewer (suc level) = rw (up_to_fewer level, clearing_fewer (suc level)) (go (clearing_up_to (k + bytes) level r) refl)
      where
        ends : (o : Found) → or_else o Nothing ≡ o
        ends Nothing = refl
        ends (At ρ) = refl

        go : (o : Found) → clearing_up_to (k + bytes) level r ≡ o
            → or_else (fewer k o) (fewer k (clearing (k + bytes) (suc level) r)) ≡ fewer k (or_else o (clearing (k + bytes) (suc level) r))
        go Nothing e = refl
        go (At ρ) e =
            let c = up_to_found (k + bytes) r level e in
            let z : clearing (k + bytes) (suc level) r ≡ Nothing
            = clearing_is (k + bytes) r a ρ c.clears.proper c.clears.fits (suc level) ∙ rw (ne_eqb (suc level) (count ρ) (λ q. omega (arith, c.few))) in
            rw z (ends (earlier k ρ))
