-- WHICH OF THE PLACES IS CHOSEN: the one that holds the fewest repairs; of those with as many the one with the greatest cn0, and of the
-- equally great the first in the order of the scan. A NaN is chosen exactly where it is met first.
-- Assumes nothing.
use Rattle.std.specs.Prelude.{◌≡◌, true, ◌↔◌, ◌≢◌, ℕ, ◌+◌, ◌*◌, ◌≤◌, ◌<◌, length}
use Rattle.std.specs.Float.Ieee.{lt, le, is_nan}
use Rattle.lists.specs.From.{tabulate}
use Rattle.annex10.specs.Repair.{count}
use Rattle.annex10.specs.declared.Repairs.{Repairs}
use Rattle.place.specs.declared.Place.{Place}
use Rattle.place.specs.declared.Slicer.{Slicer}
use Rattle.place.specs.All.{listed, place_at}
use Rattle.search.specs.declared.Settings.{Settings}
use Rattle.search.specs.Kinds.{Kind, places_of}
use Rattle.search.specs.Window.{◌∈◌, Window}
use Rattle.claims.specs.Fits.{cn0_with, Holds}

-- There are so many places. They are those with a bit offset of 1 to m, a clock phase of 0 to 3 and a symbol offset of 0 or 1.
pub record Places (kind : Kind) (m many : ℕ) : Type 0 where
  pub counted : length (places_of kind) ≡ many
  pub each : (p : Place) → (p ∈ places_of kind) ↔ (listed m p ≡ true)
  -- they are scanned by bit offset, then by clock phase, then by symbol offset
  pub order : places_of kind ≡ tabulate many place_at

-- q comes before p in that order
abbrev pub Sooner : Place → Place → Type 0
Sooner q p = 8 * q.bit + 2 * q.phase + q.symbol < 8 * p.bit + 2 * p.phase + p.symbol

-- a place that is searched holds ρ of z
abbrev pub Held : Kind → Settings → Window → Place → Slicer → Repairs → Type 0
Held kind s w p z ρ = (p ∈ places_of kind) × Holds kind s w p z ρ

-- it holds n repairs
abbrev pub HeldWith : Kind → Settings → Window → ℕ → Place → Slicer → Repairs → Type 0
HeldWith kind s w n p z ρ = Held kind s w p z ρ × (count ρ ≡ n)

-- ρ of z at p is chosen.
pub record Chosen (kind : Kind) (s : Settings) (w : Window) (p : Place) (z : Slicer) (ρ : Repairs) : Type 0 where
  pub held : Held kind s w p z ρ
  -- no place holds anything with fewer repairs
  pub fewest : (q : Place) (y : Slicer) (σ : Repairs) → Held kind s w q y σ → count ρ ≤ count σ
  -- of the places that hold as many, none has a strictly greater cn0, and none that comes before has one as great
  pub greatest : (q : Place) (y : Slicer) (σ : Repairs) → HeldWith kind s w (count ρ) q y σ → lt (cn0_with w p z ρ) (cn0_with w q y σ) ≢ true
  pub earliest : (q : Place) (y : Slicer) (σ : Repairs) → HeldWith kind s w (count ρ) q y σ → Sooner q p
      → le (cn0_with w p z ρ) (cn0_with w q y σ) ≢ true
  -- a NaN displaces none of them: if this is one, none comes before
  pub newcomer : is_nan (cn0_with w p z ρ) ≡ true → (q : Place) (y : Slicer) (σ : Repairs) → HeldWith kind s w (count ρ) q y σ → ¬ Sooner q p
  -- and none of them displaces a NaN: if the first of them has one, it is this
  pub holder : (q : Place) (y : Slicer) (σ : Repairs) → HeldWith kind s w (count ρ) q y σ → is_nan (cn0_with w q y σ) ≡ true
      → ((r : Place) (x : Slicer) (τ : Repairs) → HeldWith kind s w (count ρ) r x τ → ¬ Sooner r q) → q ≡ p
