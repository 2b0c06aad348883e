-- IS WHAT THE TABLES SAY WHAT A TRIAL FINDS? Yes, for every message of 14 bytes and each of the three levels. The tables see nothing of a
-- message but its remainder; a trial turns bits of the message over and divides.
-- Assumes nothing.
use Rattle.std.specs.Prelude.{◌≡◌, List, ◌↔◌, ℕ, ◌≤◌, length, Result}
use Rattle.refusals.specs.declared.Refusal.{Refusal}
use Rattle.refusals.specs.Refusals.{told}
use Rattle.annex10.specs.Remainder.{remainder}
use Rattle.annex10.specs.Repair.{count, Proper, repaired}
use Rattle.annex10.specs.Mend.{repair_of}
use Rattle.annex10.specs.declared.Repairs.{Repairs}
use Rattle.annex10.specs.declared.Found.{Found}
use Rattle.annex10.specs.declared.Found.TheVariants.{At, Nothing}

-- The message m is cleared by ρ.
pub record ClearedBy (level : ℕ) (m : List ℕ) (ρ : Repairs) : Type 0 where
  -- its positions are different and lie within 14 bytes; two are named in their order
  pub positions : Proper 14 ρ
  -- there are no more than the level permits
  pub few : count ρ ≤ level
  -- turned over there, the message has the remainder 0
  pub clear : remainder (repaired m ρ) ≡ 0

-- What `repair` finds is right, and what is right is found. There is at most one such choice: so it is the one with the fewest positions.
pub record Mends (repair : ℕ → List ℕ → Found) : Type 0 where
  -- ρ is found exactly when it clears the message
  pub finds : (level : ℕ) (m : List ℕ) → level ≤ 2 → length m ≡ 14 → (ρ : Repairs) → (repair level m ≡ At ρ) ↔ ClearedBy level m ρ
  -- nothing is found exactly when nothing clears it
  pub nothing : (level : ℕ) (m : List ℕ) → level ≤ 2 → length m ≡ 14 → (repair level m ≡ Nothing) ↔ ((ρ : Repairs) → ¬ ClearedBy level m ρ)

-- ALL OF IT: `tables` is what the sorted tables hold for the remainder of a message, `trial` what turning over and dividing finds.
pub record SameRepair (tables trial : ℕ → List ℕ → Found) : Type 0 where
  -- 1. The two are equal.
  pub equal : (level : ℕ) (m : List ℕ) → level ≤ 2 → length m ≡ 14 → tables level m ≡ trial level m
  -- 2. Each is right.
  pub by_tables : Mends tables
  pub by_trial : Mends trial
  -- 3. So are the two functions: `a` is what `repair` may answer, `b` what `repair_slowly` may, of any message at any level, refusals too.
  pub answers : (level : ℕ) (m : List ℕ) (a b : Result Found Refusal) → told a ≡ repair_of 14 2 level m → told b ≡ repair_of 14 2 level m → a ≡ b
