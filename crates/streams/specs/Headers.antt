-- What `df_is_valid_extended_squitter` and `df_is_valid_acquisition_squitter` answer.
-- Assumes nothing.
use Rattle.std.specs.Prelude.{Bool, List, ℕ, get_or}
use Rattle.lists.specs.Told.{Told, tell, and_then}
use Rattle.annex10.specs.declared.Repairs.{Repairs}
use Rattle.mode_s.specs.Header.{header_of}
use Rattle.streams.specs.Streams.{message_at, stream_number}

-- the header of the message of n bytes at a bit offset: its first byte, repaired
unfoldable pub validity_at : ℕ → (ℕ → Bool) → List ℕ → ℕ → Repairs → Told Bool
validity_at n taken bytes offset ρ =
    and_then
    (tell (stream_number n bytes offset) (get_or (message_at bytes n offset) 0 0))
    (λ (first : ℕ). header_of n taken first ρ)
