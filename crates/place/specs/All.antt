-- The places that are searched: bit offsets 1 to m, 31 for messages of 14 bytes and 87 for those of 7.
-- Assumes nothing.
use Rattle.std.specs.Prelude.{Bool, ◌&&◌, cond, ℕ, ◌+◌, ◌*◌, ◌/◌, ◌%◌, leb, ltb}
use mathlib.Core.List.{List, [], ◌∷◌, flat_map}
use Rattle.lists.specs.From.{from}
use Rattle.lists.specs.Told.{Told, done, refused}
use Rattle.annex10.specs.declared.MessageKind.{MessageKind}
use Rattle.annex10.specs.declared.MessageKind.TheVariants.{Short, Long}
use Rattle.place.specs.declared.Place.{Place}

-- the last bit offset that is searched for messages of a kind
abbrev pub last_bit : MessageKind → ℕ
last_bit Short = 87
last_bit Long = 31

-- bit offset 1 to m, clock phase 0 to 3, symbol offset 0 or 1
unfoldable pub listed : ℕ → Place → Bool
listed m p = leb 1 p.bit && leb p.bit m && leb p.phase 3 && leb p.symbol 1

-- the n numbers from k on
abbrev pub up : ℕ → ℕ → List ℕ
up k n = from (λ i. i) k n

-- all of them: for each bit offset each clock phase, and for each of these each symbol offset
unfoldable pub all_places : ℕ → List Place
all_places m =
    flat_map (λ bit. flat_map (λ phase. flat_map (λ symbol. record { bit = bit; phase = phase; symbol = symbol } ∷ []) (up 0 2)) (up 0 4)) (up 1 m)

-- number k of them, counted from 0
unfoldable pub place_at : ℕ → Place
place_at k = record { bit = 1 + k / 8; phase = k / 2 % 4; symbol = k % 2 }

-- the same if there are so many
abbrev pub place_below : ℕ → ℕ → Told Place
place_below count k = cond (ltb k count) (done (place_at k)) (refused 7)

-- 8 for each bit offset
unfoldable pub listed_at : ℕ → ℕ → Told Place
listed_at m k = place_below (8 * m) k
