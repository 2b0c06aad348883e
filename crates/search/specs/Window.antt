-- What a search sees of a window, and a member of its places.
-- Assumes nothing.
use Rattle.std.specs.Prelude.{◌≡◌, ℕ, length, Float}
use mathlib.Core.List.{List, Memᴰ}
use Rattle.place.specs.declared.Place.{Place}
use Rattle.place.specs.declared.Slicer.{Slicer}
use Rattle.search.specs.Kinds.{Kind}

-- p is one of the places
infix 4 ◌∈◌
abbrev pub ◌∈◌ : Place → List Place → Type 0
p ∈ places = Memᴰ p places

-- what a search sees of a window
pub record Window : Type 0 where
  -- the bits of a slicer at a place
  pub bits : Slicer → Place → List ℕ
  -- how many of them were undecided
  pub undecided : Slicer → Place → ℕ
  -- in how many of them the two slicers differ
  pub distance : Place → ℕ
  -- prompt power and cn0 of a message at a place
  pub prompt : Place → List ℕ → Float
  pub cn0 : Place → List ℕ → Float

-- the same of a window in which no bit is marked
abbrev pub unmarked : Window → Window
unmarked w = record { bits = w.bits; undecided = λ slicer p. 0; distance = w.distance; prompt = w.prompt; cn0 = w.cn0 }

-- the bits of a place are as many as a message has
pub record Sized (kind : Kind) (w : Window) : Type 0 where
  pub size : (slicer : Slicer) (p : Place) → length (w.bits slicer p) ≡ kind.bytes
