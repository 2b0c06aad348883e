-- What `postdecode_powers` answers.
-- Assumes nothing.
use Rattle.std.specs.Prelude.{cond, ◌&&◌, List, ℕ, ◌*◌, eqb, length, Float}
use Rattle.lists.specs.Told.{Told, done, refused}
use Rattle.annex10.specs.Length.{message_length}
use Rattle.powers.specs.declared.both.Powers.{Powers}
use Rattle.powers.specs.Powers.{power_of, noise_of}

-- a message, with 16 symbols and 64 samples for each of its bytes, else 2
unfoldable pub powers_at : List Float → List Float → List ℕ → Told Powers
powers_at symbols samples message =
    cond (message_length (length message) && eqb (length symbols) (32 * length message) && eqb (length samples) (128 * length message))
    (done (record { prompt = power_of (length message) symbols message; noise = noise_of (length message) samples message }))
    (refused 2)
