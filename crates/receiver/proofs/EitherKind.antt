-- What the two kinds of message have in common, as far as the bodies for both rest on it.
--     kind_bytes, kind_last, kind_most, kind_header     a kind, in the words of the search
--     right     both are so
--     within_listed     a message at a place that is searched ends within the window
--     led       the bit that every header has set
--     twice_streams, twice_taken, twice_distance     only long messages are repaired twice
-- Assumes nothing.
use mathlib.Core.Path.{◌≡◌, refl, subst, sym}
use mathlib.Core.Bool.{true}
use mathlib.Core.List.{List}
use Prim.Native.Nat.{ℕ, ◌+◌, ◌-◌, ◌*◌, ◌≤◌, min}
use native.Mathlib.Nat.{min-le_left, min_comm}
use native.Mathlib.Omega.{arith}
use Rattle.annex10.specs.Length.{message_length, message_bytes, most_repairs}
use Rattle.annex10.specs.Header.{listed_header}
use Rattle.annex10.specs.Repair.{Apart}
use Rattle.annex10.proofs.Length.{short_length, long_length}
use Rattle.annex10.proofs.Unique.{apart_14, apart_7}
use Rattle.annex10.specs.declared.MessageKind.{MessageKind}
use Rattle.annex10.specs.declared.MessageKind.TheVariants.{Short, Long}
use Rattle.place.specs.declared.Place.{Place}
use Rattle.place.specs.declared.location.Location.{Location}
use Rattle.place.specs.All.{listed, last_bit}
use Rattle.place.specs.Agrees.{location_number}
use Rattle.place.proofs.Within.{Within}
use Rattle.place.proofs.Steps.{listed_within}
use Rattle.streams.specs.Streams.{message_at}
use Rattle.streams.specs.Distances.{differing}
use Rattle.search.specs.Kinds.{Kind, long, short}
use Rattle.search.proofs.Locating.{Makes, made_long, made_short}
use Rattle.scan.specs.Exact.{lead_of}
use Rattle.scan.proofs.Exacting.{Led, led_long, led_short}
use Rattle.receiver.specs.Inner.{Streams, kind_of}

-- a kind, in the words of the search
pub kind_bytes : (kind : MessageKind) → (kind_of kind).bytes ≡ message_bytes kind
unfolding long short
kind_bytes Long = refl
kind_bytes Short = refl

pub kind_last : (kind : MessageKind) → (kind_of kind).last ≡ last_bit kind
unfolding long short
kind_last Long = refl
kind_last Short = refl

pub kind_most : (kind : MessageKind) → (kind_of kind).most ≡ most_repairs kind
unfolding long short
kind_most Long = refl
kind_most Short = refl

pub kind_header : (kind : MessageKind) → (kind_of kind).header ≡ listed_header kind
unfolding long short
kind_header Long = refl
kind_header Short = refl

pub record Right (k : Kind) : Type 0 where
  pub whole : message_length k.bytes ≡ true
  pub low : 7 ≤ k.bytes
  pub high : k.bytes ≤ 14
  -- the last message ends one bit before the streams do
  pub last : k.last + 8 * k.bytes ≡ 143
  pub most : k.most ≤ 2
  pub apart : Apart k.bytes
  -- all trials up to its last are made
  pub makes : Makes k

pub right_long : Right long
unfolding long
right_long = record { whole = long_length; low = omega arith; high = omega arith; last = omega arith; most = omega arith; apart = apart_14; makes = made_long }

pub right_short : Right short
unfolding short
right_short = record { whole = short_length; low = omega arith; high = omega arith; last = omega arith; most = omega arith; apart = apart_7; makes = made_short }

pub right : (kind : MessageKind) → Right (kind_of kind)
right Long = right_long
right Short = right_short

-- a message at a place that is searched ends within the window
pub within_listed : (k : Kind) → Right k → (p : Place) → listed k.last p ≡ true → Within k.bytes p
within_listed k r p h =
    let e : k.last ≡ 143 - 8 * k.bytes = omega (arith, r.last) in
    listed_within k.bytes p (omega (arith, r.high)) (rw (← e) h)

pub led : (kind : MessageKind) → Led (kind_of kind) (lead_of kind)
led Long = led_long
led Short = led_short

twice_long : (kind : MessageKind) (level n : ℕ) → n ≤ min level (kind_of kind).most → n ≡ 2 → kind ≡ Long
unfolding short
twice_long Long level n h e = refl
twice_long Short level n h e = absurd (omega (arith, min-le_left 1 level, min_comm level 1))

module _ (kind : MessageKind) (level n : ℕ) (h : n ≤ min level (kind_of kind).most) (coherent noncoherent : List ℕ) (bit : ℕ) where
  pub twice_streams : Streams (kind_of kind) coherent noncoherent bit → n ≡ 2 → Streams long coherent noncoherent bit
  twice_streams s e = subst (λ (k : MessageKind). Streams (kind_of k) coherent noncoherent bit) (twice_long kind level n h e) s

  pub twice_taken : (l : Location) → location_number (kind_of kind).bytes l ≡ 0 → n ≡ 2 → location_number 14 l ≡ 0
  unfolding long
  twice_taken l s e = subst (λ (k : MessageKind). location_number (kind_of k).bytes l ≡ 0) (twice_long kind level n h e) s

  pub twice_distance : n ≡ 2
      → differing (message_at coherent 14 bit) (message_at noncoherent 14 bit) 112
      ≡ differing (message_at coherent (kind_of kind).bytes bit) (message_at noncoherent (kind_of kind).bytes bit) (8 * (kind_of kind).bytes)
  unfolding long
  twice_distance e =
      subst
      (λ (k : MessageKind).
      differing (message_at coherent 14 bit) (message_at noncoherent 14 bit) 112
      ≡ differing (message_at coherent (kind_of k).bytes bit) (message_at noncoherent (kind_of k).bytes bit) (8 * (kind_of k).bytes))
      (sym (twice_long kind level n h e)) refl
