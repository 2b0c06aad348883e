-- What `powers_around` answers.
-- Assumes nothing.
use Rattle.std.specs.Prelude.{cond, ◌&&◌, List, ℕ, ◌*◌, eqb, length, Float}
use Rattle.lists.specs.Told.{Told, done, refused}
use Rattle.annex10.specs.Length.{message_length}
use Rattle.powers.specs.declared.around.Around.{Around}
use Rattle.powers.specs.Powers.{power_of}

-- a message, with 16 symbols of each neighbour for each of its bytes, else 2
unfoldable pub around_at : List Float → List Float → List Float → List Float → List ℕ → Told Around
around_at a b c d message =
    cond (message_length (length message)
    && eqb (length a) (32 * length message) && eqb (length b) (32 * length message) && eqb (length c) (32 * length message) && eqb (length d) (32 * length message))
    (done (record {
      earliest = power_of (length message) a message;
      earlier = power_of (length message) b message;
      later = power_of (length message) c message;
      latest = power_of (length message) d message;
    }))
    (refused 2)
