-- What `try_decode` answers.
-- Assumes nothing.
use Rattle.std.specs.Prelude.{cond, List, ℕ, leb, eqb, length}
use Rattle.lists.specs.Told.{Told, tell}
use Rattle.place.specs.declared.Place.{Place}
use Rattle.place.specs.All.{listed}
use Rattle.streams.specs.Streams.{message_at}
use Rattle.search.specs.declared.Tried.{Tried}
use Rattle.search.specs.Kinds.{long}
use Rattle.search.specs.Trials.{reading}

-- a stream has 18 bytes, else 2; the level is 0, 1 or 2, else 4; the place is one of those that are searched, else 7
unfoldable pub try_number : ℕ → List ℕ → List ℕ → Place → ℕ
try_number level coherent noncoherent p =
    cond (eqb (length coherent) 18)
    (cond (eqb (length noncoherent) 18)
    (cond (leb level 2)
    (cond (listed 31 p) 0
    7)
    4)
    2)
    2

-- the reading of a place, from the two streams in which it lies
unfoldable pub tried_at : ℕ → List ℕ → List ℕ → Place → Told Tried
tried_at level coherent noncoherent p =
    tell (try_number level coherent noncoherent p) (reading long level p (message_at coherent 14 p.bit) (message_at noncoherent 14 p.bit))
