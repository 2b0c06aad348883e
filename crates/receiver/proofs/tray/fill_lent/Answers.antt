-- `receiver::tray::fill_lent` meets its contract: what is written out is the hash. Assumes nothing.
use mathlib.Core.Path.{refl}
use mathlib.Core.Logic.{inr}
use Rattle.sieve.proofs.Lent.{hash_written}
use Rattle.receiver.proofs.tray.fill_lent.Goals as goal

pub invariant_of-hash : goal.invariant_of-hash
invariant_of-hash c = record { hashed = ∣ inr (hash_written _ _ refl refl c.write_hash.ensures) ∣₁ }

pub invariant_of-windows : goal.invariant_of-windows
invariant_of-windows c = let p = c.requires in record { few = p.0; each = p.1; one = p.2 }

pub fill-requires : goal.fill-requires
fill-requires c = let p = c.requires in (refl, p.3, p.4, p.5)
