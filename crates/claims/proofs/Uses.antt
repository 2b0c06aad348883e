-- The claims of the two searches of a window, for samples of any number: nothing is assumed of them.
-- Assumes nothing.
use mathlib.Core.Path.{sym}
use mathlib.Core.List.{List}
use Prim.Native.Nat.{◌+◌, ◌*◌, ◌≤◌}
use native.Mathlib.Omega.{arith}
use lib.Ieee.{Float}
use Rattle.annex10.specs.Repair.{Apart}
use Rattle.annex10.proofs.Unique.{apart_14, apart_7}
use Rattle.place.proofs.All.{counted, listed_member, member_listed}
use Rattle.place.proofs.Cases.{places_many}
use Rattle.streams.proofs.Reading.{message_length_law}
use Rattle.search.specs.declared.Settings.{Settings}
use Rattle.search.specs.Window.{Sized}
use Rattle.search.specs.Kinds.{Kind, long, short}
use Rattle.search.specs.Seen.{bits_at, window_of, seen}
use Rattle.claims.specs.Bits.{Heard}
use Rattle.claims.specs.Chosen.{Places}
use Rattle.claims.specs.Searched.{Searched}
use Rattle.claims.proofs.Choosing.{searched}
use Rattle.claims.proofs.Bits.{heard}

-- what the claims rest on: one remainder for each choice of positions, and messages that end within the window
pub record Sound (kind : Kind) : Type 0 where
  pub apart : Apart kind.bytes
  pub room : kind.last + 8 * kind.bytes ≤ 143

-- EITHER KIND
pub places_of_law : (kind : Kind) → Places kind kind.last (8 * kind.last)
places_of_law kind =
    record { counted = places_many kind.last; each = λ p. (member_listed kind.last p, listed_member kind.last p); order = sym (counted kind.last) }

pub sized : (kind : Kind) (samples : List Float) → Sized kind (seen kind samples)
unfolding window_of bits_at
sized kind samples = record { size = λ slicer p. message_length_law _ kind.bytes p.bit }

module _ (kind : Kind) (sound : Sound kind) (samples : List Float) where
  pub search_of_law : (s : Settings) → Searched kind s (seen kind samples)
  search_of_law s = searched kind s (seen kind samples) sound.apart (sized kind samples) (places_of_law kind)

  pub heard_of : Heard kind.bytes kind.last samples
  heard_of = heard kind.bytes kind.last samples sound.room

-- LONG MESSAGES: 14 bytes, 248 places, at most two repairs
pub sound_long : Sound long
unfolding long
sound_long = record { apart = apart_14; room = omega arith }

pub long_places : Places long 31 248
unfolding long
long_places = places_of_law long

pub long_search : (samples : List Float) (s : Settings) → Searched long s (seen long samples)
long_search samples s = search_of_law long sound_long samples s

-- SHORT MESSAGES: 7 bytes, 696 places, at most one repair
pub sound_short : Sound short
unfolding short
sound_short = record { apart = apart_7; room = omega arith }

pub short_places : Places short 87 696
unfolding short
short_places = places_of_law short

pub short_search : (samples : List Float) (s : Settings) → Searched short s (seen short samples)
short_search samples s = search_of_law short sound_short samples s
