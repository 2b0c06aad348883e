-- What `postdecode_power` and `postdecode_noise_power` answer. A bit is sent as two halves of four samples, one of them a pulse.
-- Assumes nothing.
use Rattle.std.specs.Prelude.{List, cond, ℕ, ◌+◌, ◌-◌, ◌*◌, eqb, length, Float}
use Rattle.lists.specs.Bits.{bit_at}
use Rattle.lists.specs.Told.{Told, tell}
use Rattle.annex10.specs.Length.{message_length}
use Rattle.math.specs.Complex.{plus_of, norm_of}
use Rattle.math.specs.Sum.{total}
use Rattle.kernels.specs.Symbols.{complex_at}

-- the norm of the pulse symbol of bit j: the first of its pair for bit 1, the second for bit 0
unfoldable pub pulse_norm : List Float → List ℕ → ℕ → Float
pulse_norm symbols message j = norm_of (complex_at symbols (2 * j + (1 - bit_at message j)))

-- of the 8 samples of bit j, the number of the first of the middle two in the empty half: the second half for bit 1
unfoldable pub middle : List ℕ → ℕ → ℕ
middle message j = 8 * j + 4 * bit_at message j + 1

-- the norm of the sum of the middle two samples in the empty half of bit j
unfoldable pub empty_norm : List Float → List ℕ → ℕ → Float
empty_norm samples message j = norm_of (plus_of (complex_at samples (middle message j)) (complex_at samples (middle message j + 1)))

-- prompt power: over the bits of a message of n bytes, in order, from 0.0
unfoldable pub power_of : ℕ → List Float → List ℕ → Float
power_of n symbols message = total (pulse_norm symbols message) (8 * n)

-- noise power, likewise
unfoldable pub noise_of : ℕ → List Float → List ℕ → Float
noise_of n samples message = total (empty_norm samples message) (8 * n)

-- the number of a call: a message, and so many floats for each of its bytes, else 2
unfoldable pub power_number : ℕ → List Float → List ℕ → ℕ
power_number floats xs message =
    cond (message_length (length message))
    (cond (eqb (length xs) (floats * length message)) 0
    2)
    2

-- what `postdecode_power` answers: 16 symbols for each byte
unfoldable pub power_at : List Float → List ℕ → Told Float
power_at symbols message = tell (power_number 32 symbols message) (power_of (length message) symbols message)

-- what `postdecode_noise_power` answers: 64 samples for each byte
unfoldable pub noise_power_at : List Float → List ℕ → Told Float
noise_power_at samples message = tell (power_number 128 samples message) (noise_of (length message) samples message)
