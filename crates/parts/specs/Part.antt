-- Parts for a message of n bytes at a location. Where a part is refused it is empty, and the number says why.
-- Assumes nothing.
use Rattle.std.specs.Prelude.{cond, List, [], ℕ, ◌+◌, ◌-◌, ◌*◌, ◌/◌, ◌%◌, eqb, leb, Float, length, take, drop}
use Rattle.lists.specs.Told.{Told, tell}
use Rattle.place.specs.declared.Place.{Place}
use Rattle.place.specs.declared.Slicer.{Slicer}
use Rattle.place.specs.declared.Slicer.TheVariants.{Coherent, Noncoherent}
use Rattle.place.specs.declared.location.Location.{Location}
use Rattle.place.specs.Step.{symbol_start, sample_start}
use Rattle.place.specs.Agrees.{location_number}

-- the two numbers of each of the 16 * n symbols from a place on, of a row of 288
unfoldable pub symbols_at : ℕ → List Float → Place → List Float
symbols_at n row p = take (32 * n) (drop (2 * symbol_start p) row)

-- the two numbers of each of the 64 * n samples from a place on, of a window of 1,155
unfoldable pub samples_at : ℕ → List Float → Place → List Float
samples_at n window p = take (128 * n) (drop (2 * sample_start p) window)

-- 2 unless there are so many numbers, then what is refused of the location
abbrev pub number_of : ℕ → ℕ → List Float → ℕ
number_of size number xs = cond (eqb (length xs) size) number 2

unfoldable pub row_refusal : ℕ → ℕ → List Float → Location → ℕ
row_refusal size n xs l = number_of size (location_number n l) xs

-- the symbols and the samples of a location
unfoldable pub symbols_for : ℕ → List Float → Location → List Float
symbols_for n row l = cond (eqb (row_refusal 576 n row l) 0) (symbols_at n row l.place) []

unfoldable pub samples_for : ℕ → List Float → Location → List Float
samples_for n window l = cond (eqb (row_refusal 2310 n window l) 0) (samples_at n window l.place) []

-- 2 unless both streams have 18 bytes, then what is refused of the location
abbrev pub streams_number : ℕ → List ℕ → List ℕ → ℕ
streams_number number coherent noncoherent = cond (eqb (length coherent) 18) (cond (eqb (length noncoherent) 18) number 2) 2

unfoldable pub streams_refusal : ℕ → List ℕ → List ℕ → Location → ℕ
streams_refusal n coherent noncoherent l = streams_number (location_number n l) coherent noncoherent

-- the stream that the slicer names
abbrev pub chosen : {A : Type 0} → Slicer → A → A → A
chosen Coherent coherent noncoherent = coherent
chosen Noncoherent coherent noncoherent = noncoherent

-- n bytes, or one more where the bit offset is no multiple of 8
unfoldable pub part_size : ℕ → ℕ → ℕ
part_size n bit = cond (eqb (bit % 8) 0) n (n + 1)

-- the same for a bit offset that is at most `last`
abbrev pub size_to : ℕ → ℕ → ℕ → Told ℕ
size_to last n bit = tell (cond (leb bit last) 0 7) (part_size n bit)

-- the same, where the message ends within a stream
unfoldable pub size_at : ℕ → ℕ → Told ℕ
size_at n bit = size_to (144 - 8 * n) n bit

-- the bytes of the named stream that hold the message's bits
unfoldable pub slicer_part : ℕ → List ℕ → List ℕ → Location → List ℕ
slicer_part n coherent noncoherent l =
    let bit = l.place.bit in
    cond (eqb (streams_refusal n coherent noncoherent l) 0)
    (take (part_size n bit) (drop (bit / 8) (chosen l.slicer coherent noncoherent)))
    []
