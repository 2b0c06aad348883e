-- Repairs: at most two positions of a message of some bytes, and which of them clear a remainder.
-- Assumes nothing.
use Rattle.std.specs.Prelude.{◌≡◌, Bool, true, ◌&&◌, cond, List, [], ◌∷◌, ◌⊎◌, ◌≢◌, ℕ, zero, suc, ◌*◌, ◌<◌, eqb, ltb, get_or, replicate}
use Rattle.annex10.specs.Remainder.{remainder}
use Rattle.annex10.specs.Flip.{flip}
use Rattle.annex10.specs.declared.Repairs.{Repairs}
use Rattle.annex10.specs.declared.Repairs.TheVariants.{None, One, Two}
use Rattle.annex10.specs.declared.Found.{Found}
use Rattle.annex10.specs.declared.Found.TheVariants.{At, Nothing}

-- how many positions
abbrev pub count : Repairs → ℕ
count None = 0
count (One j) = 1
count (Two j k) = 2

-- j is one of them
abbrev pub Named : ℕ → Repairs → Type 0
Named j None = ⊥
Named j (One k) = j ≡ k
Named j (Two k l) = (j ≡ k) ⊎ (j ≡ l)

-- they lie in so many bytes
abbrev pub inside : ℕ → Repairs → Bool
inside bytes None = true
inside bytes (One j) = ltb j (8 * bytes)
inside bytes (Two j k) = ltb j (8 * bytes) && ltb k (8 * bytes)

-- they lie in so many bytes and are different; the order is free
abbrev pub Different : ℕ → Repairs → Type 0
Different bytes None = Unit
Different bytes (One j) = j < 8 * bytes
Different bytes (Two j k) = (j ≢ k) × (j < 8 * bytes) × (k < 8 * bytes)

-- they lie in so many bytes, are different, and two are named in their order
abbrev pub Proper : ℕ → Repairs → Type 0
Proper bytes None = Unit
Proper bytes (One j) = j < 8 * bytes
Proper bytes (Two j k) = (j < k) × (k < 8 * bytes)

-- the message with the bits at the positions turned over; the same position twice cancels
unfoldable pub repaired : List ℕ → Repairs → List ℕ
repaired m None = m
repaired m (One j) = flip m j
repaired m (Two j k) = flip (flip m j) k

-- the first byte of the repaired message, from the first byte alone
unfoldable pub repaired_head : ℕ → Repairs → ℕ
repaired_head b ρ = get_or (repaired (b ∷ []) ρ) 0 0

-- the remainder of the message of so many bytes in which the bits at the positions are set, and no others
unfoldable pub pattern : ℕ → Repairs → ℕ
pattern bytes ρ = remainder (repaired (replicate bytes 0) ρ)

-- all the patterns of at most two positions have different remainders
pub record Apart (bytes : ℕ) : Type 0 where
  pub same : (ρ σ : Repairs) → Proper bytes ρ → Proper bytes σ → pattern bytes ρ ≡ pattern bytes σ → ρ ≡ σ

-- ---- which positions clear a remainder

abbrev pub or_else : Found → Found → Found
or_else (At ρ) f = At ρ
or_else Nothing f = f

-- the first of f 0, f 1, .. f (n - 1) that is something
unfoldable pub seek : (ℕ → Found) → ℕ → Found
seek f zero = Nothing
seek f (suc n) = or_else (seek f n) (f n)

-- the first choice of exactly n positions of so many bytes, n at most 2, that f takes: no position; each in turn; each pair in order
unfoldable pub choose : (Repairs → Found) → ℕ → ℕ → Found
choose f bytes zero = f None
choose f bytes (suc zero) = seek (λ j. f (One j)) (8 * bytes)
choose f bytes (suc (suc zero)) = seek (λ k. seek (λ j. f (Two j k)) k) (8 * bytes)
choose f bytes (suc (suc (suc n))) = Nothing

-- the positions, if their pattern has the remainder r
unfoldable pub fitting : ℕ → ℕ → Repairs → Found
fitting bytes r ρ = cond (eqb (pattern bytes ρ) r) (At ρ) Nothing

-- the first choice of exactly n positions, n at most 2, whose pattern has the remainder r
unfoldable pub clearing : ℕ → ℕ → ℕ → Found
clearing bytes zero r = fitting bytes r None
clearing bytes (suc zero) r = seek (λ j. fitting bytes r (One j)) (8 * bytes)
clearing bytes (suc (suc zero)) r = seek (λ k. seek (λ j. fitting bytes r (Two j k)) k) (8 * bytes)
clearing bytes (suc (suc (suc n))) r = Nothing
