-- What is read in a lane of the bits by starting sample.
--     lane_streams     its streams
--     lane_reading     the six trials by the first bytes of its messages are the reading
-- Assumes nothing.
use mathlib.Core.Path.{◌≡◌, ap, ◌∙◌}
use mathlib.Core.Bool.{Bool, true, false, cond}
use mathlib.Core.List.{List, [], ◌∷◌}
use Prim.Native.Nat.{ℕ, ◌+◌, ◌*◌, ◌<◌}
use native.Mathlib.Omega.{arith}
use lib.ListN.{length}
use Rattle.lists.specs.Bits.{packed}
use Rattle.lists.proofs.Table.{length_tabulate}
use Rattle.annex10.specs.Any.{only}
use Rattle.annex10.specs.declared.Found.{Found}
use Rattle.place.specs.declared.Place.{Place}
use Rattle.place.specs.declared.Slicer.{Slicer}
use Rattle.place.specs.declared.Slicer.TheVariants.{Coherent, Noncoherent}
use Rattle.parts.specs.Part.{chosen}
use Rattle.streams.specs.Streams.{message_at}
use Rattle.streams.proofs.Reading.{message_length_law}
use Rattle.scan.specs.Lanes.{lane_bytes, byte_from}
use Rattle.scan.proofs.Packing.{first_byte_law}
use Rattle.search.specs.declared.Tried.{Tried}
use Rattle.search.specs.Kinds.{Kind}
use Rattle.search.specs.Trials.{six_trials, first, reading}
use Rattle.receiver.specs.Inner.{Streams, Lane, Known}
use Rattle.receiver.proofs.EitherKind.{Right}
use Rattle.receiver.proofs.Turns.{reading_first}

pub lane_length : (bits : List ℕ) (lane : ℕ) → length (lane_bytes bits lane) ≡ 18
unfolding lane_bytes packed
lane_length bits lane = length_tabulate 18 _

chosen_length : (slicer : Slicer) (a b : List ℕ) → length a ≡ 18 → length b ≡ 18 → length (chosen slicer a b) ≡ 18
chosen_length Coherent a b h g = h
chosen_length Noncoherent a b h g = g

either_length : (t : Bool) (a b : List ℕ) → length a ≡ 18 → length b ≡ 18 → length (cond t a b) ≡ 18
either_length true a b h g = h
either_length false a b h g = g

module _ (k : Kind) (coherent noncoherent : List ℕ) (lane bit : ℕ) (w : Lane k coherent noncoherent lane bit) where
  -- the named one, and the other or what stands in for it
  pub lane_streams : (slicer : Slicer) (two : Bool) {a b : List ℕ} → b ≡ chosen slicer (lane_bytes coherent lane) (lane_bytes noncoherent lane)
      → a ≡ cond two (chosen slicer b (lane_bytes coherent lane)) b → Streams k a b bit
  lane_streams slicer two {a} {b} e f =
      let x = lane_length coherent lane in
      let h : length b ≡ 18 = ap length e ∙ chosen_length slicer _ _ x (lane_length noncoherent lane) in
      let g : length a ≡ 18 = ap length f ∙ either_length two _ _ (chosen_length slicer _ _ h x) h in
      record { first = record { size = g; low = w.ends }; second = record { size = h; low = w.ends } }

  pub lane_reading : Right k → (level : ℕ) (p : Place) {c d : Found} {apart : Bool} {a b : ℕ} {t : Tried}
      → Known k level (lane_bytes coherent lane) (lane_bytes noncoherent lane) bit c d apart
      → a ≡ byte_from coherent (8 * bit + lane) → b ≡ byte_from noncoherent (8 * bit + lane)
      → t ≡ first (six_trials k level p (a ∷ []) (b ∷ []) (only c) (only d) apart)
      → t ≡ reading k level p (message_at (lane_bytes coherent lane) k.bytes bit) (message_at (lane_bytes noncoherent lane) k.bytes bit)
  lane_reading r level p known ea eb et =
      reading_first k level p _ _ (whole coherent) (whole noncoherent)
      (ea ∙ first_byte_law coherent lane k.bytes bit (omega (arith, r.low)) (omega (arith, w.ends, r.low)))
      (eb ∙ first_byte_law noncoherent lane k.bytes bit (omega (arith, r.low)) (omega (arith, w.ends, r.low)))
      known.first known.second known.differ et
    where
      whole : (bits : List ℕ) → 0 < length (message_at (lane_bytes bits lane) k.bytes bit)
      whole bits = rw (message_length_law (lane_bytes bits lane) k.bytes bit) (omega (arith, r.low))
