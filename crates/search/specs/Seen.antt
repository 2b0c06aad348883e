-- What a search for messages of n bytes sees of the 1,155 samples of a window.
-- Assumes nothing.
use Rattle.std.specs.Prelude.{List, ℕ, ◌*◌, take, drop, Float}
use Rattle.lists.specs.Bits.{bit_at, how_many}
use Rattle.place.specs.declared.Place.{Place}
use Rattle.place.specs.declared.Slicer.{Slicer}
use Rattle.place.specs.declared.Slicer.TheVariants.{Coherent, Noncoherent}
use Rattle.parts.specs.Part.{symbols_at, samples_at}
use Rattle.kernels.specs.Symbols.{symbols_of}
use Rattle.slicing.specs.Slices.{sliced, marks}
use Rattle.powers.specs.Powers.{power_of, noise_of}
use Rattle.streams.specs.Streams.{message_at}
use Rattle.streams.specs.Distances.{differing}
use Rattle.cn0.specs.Estimate.{cn0_of}
use Rattle.search.specs.Kinds.{Kind}
use Rattle.search.specs.Window.{Window}

-- the symbols of a clock phase: a row of 288
unfoldable pub row : List Float → ℕ → List Float
row samples phase = take 576 (drop (576 * phase) (symbols_of samples))

-- the stream of a slicer in which a place lies: that of its clock phase and symbol offset
unfoldable pub stream : List Float → Slicer → Place → List ℕ
stream samples slicer p = sliced slicer (row samples p.phase) p.symbol

-- the bits of a slicer at a place: n bytes from its bit offset
unfoldable pub bits_at : ℕ → List Float → Slicer → Place → List ℕ
bits_at n samples slicer p = message_at (stream samples slicer p) n p.bit

-- their marks, and how many of them were undecided
unfoldable pub marks_at : ℕ → List Float → Slicer → Place → List ℕ
marks_at n samples slicer p = message_at (marks slicer (row samples p.phase) p.symbol) n p.bit

unfoldable pub undecided_at : ℕ → List Float → Slicer → Place → ℕ
undecided_at n samples slicer p = how_many (bit_at (marks_at n samples slicer p)) (8 * n)

-- the power of a message in its pulses, and beside them
unfoldable pub prompt_at : ℕ → List Float → Place → List ℕ → Float
prompt_at n samples p message = power_of n (symbols_at n (row samples p.phase) p) message

unfoldable pub noise_at : ℕ → List Float → Place → List ℕ → Float
noise_at n samples p message = noise_of n (samples_at n samples p) message

-- all that the search looks at
unfoldable pub window_of : ℕ → List Float → Window
window_of n samples =
    record {
      bits = bits_at n samples;
      undecided = undecided_at n samples;
      distance = λ p. differing (bits_at n samples Coherent p) (bits_at n samples Noncoherent p) (8 * n);
      prompt = prompt_at n samples;
      cn0 = λ p message. cn0_of (prompt_at n samples p message) (noise_at n samples p message);
    }

-- the same, for a kind of message
abbrev pub seen : Kind → List Float → Window
seen kind samples = window_of kind.bytes samples
