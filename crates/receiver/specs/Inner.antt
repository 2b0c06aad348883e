-- What private functions compute: no public contract cites it.
-- Assumes nothing.
use Rattle.std.specs.Prelude.{◌≡◌, Bool, true, not, ◌&&◌, ◌||◌, cond, ℕ, ◌+◌, ◌-◌, ◌*◌, ◌/◌, ◌%◌, ◌<◌, ◌≤◌, eqb, leb, length, get_or, take, drop, replicate, Float}
use Rattle.std.specs.Prelude as code
use mathlib.Core.List.{List, [], ◌++◌, foldl}
use Rattle.std.proofs.Math.Option.{Option, none, some}
use Rattle.std.specs.Float.Ieee.{lt}
use Rattle.annex10.specs.Remainder.{remainder}
use Rattle.annex10.specs.Any.{only}
use Rattle.annex10.specs.Repair.{inside, clearing}
use Rattle.annex10.specs.declared.Repairs.{Repairs}
use Rattle.annex10.specs.declared.Repairs.TheVariants.{None, One, Two}
use Rattle.annex10.specs.declared.Found.{Found}
use Rattle.annex10.specs.declared.Found.TheVariants.{At, Nothing}
use Rattle.annex10.specs.declared.MessageKind.{MessageKind}
use Rattle.annex10.specs.declared.MessageKind.TheVariants.{Short, Long}
use Rattle.place.specs.declared.Place.{Place}
use Rattle.place.specs.declared.Slicer.TheVariants.{Coherent, Noncoherent}
use Rattle.place.specs.declared.location.Location.{Location}
use Rattle.place.specs.Step.{sample_start, starting_at}
use Rattle.place.specs.All.{listed, place_at}
use Rattle.place.specs.Agrees.{location_number}
use Rattle.parts.specs.Part.{symbols_at, samples_at, chosen}
use Rattle.math.specs.Parabola.{parabola}
use Rattle.kernels.specs.Symbols.{symbols_of}
use Rattle.slicing.specs.Undecided.{undecided_in}
use Rattle.powers.specs.declared.around.Around.{Around}
use Rattle.powers.specs.Powers.{power_of, noise_of}
use Rattle.streams.specs.Streams.{message_at}
use Rattle.streams.specs.Distances.{differing}
use Rattle.annex10.specs.Codes.{absent}
use Rattle.scan.specs.Flat.{bits_from, crcs_in}
use Rattle.scan.specs.Lanes.{lane_bytes}
use Rattle.scan.specs.Sieve.{lane_of}
use Rattle.repairs.specs.Codes.{code_up_to}
use Rattle.cn0.specs.Estimate.{cn0_of}
use Rattle.timing.specs.declared.Offset.TheVariants.{Same, Earlier, Later}
use Rattle.timing.specs.declared.Timing.{Timing}
use Rattle.timing.specs.Subsample.{fraction_of, timing_of}
use Rattle.search.specs.declared.Tried.{Tried}
use Rattle.search.specs.declared.Tried.TheVariants.{Pass, Fail}
use Rattle.search.specs.declared.Candidate.{Candidate}
use Rattle.search.specs.declared.Arrival.{Arrival}
use Rattle.search.specs.declared.Answer.{Answer}
use Rattle.search.specs.Kinds.{Kind, long, short}
use Rattle.search.specs.Window.{Window}
use Rattle.search.specs.Seen.{seen}
use Rattle.search.specs.declared.Settings.{Settings}
use Rattle.search.specs.Choice.{beats, better, best}
use Rattle.search.specs.When.{timing_at, index_of}
use Rattle.search.specs.declared.ShortCandidate.{ShortCandidate}
use Rattle.search.specs.Short.{short_candidate}
use Rattle.search.specs.Answers.{refused_answer}

-- ---- the kind, by its name in the code

abbrev pub kind_of : MessageKind → Kind
kind_of Long = long
kind_of Short = short

-- ---- room for 14 bytes

-- a message with zeros behind it
unfoldable pub padded : Kind → List ℕ → List ℕ
padded k message = message ++ replicate (14 - k.bytes) 0

abbrev pub wide : Kind → Candidate → Candidate
wide k c =
    record {
      location = c.location;
      message = padded k c.message;
      prompt = c.prompt;
      cn0 = c.cn0;
      undecided = c.undecided;
    }

-- what is found, with such a message, as the code holds it
abbrev pub held_of : Kind → Option Candidate → code.Option Candidate
held_of k none = code.None
held_of k (some c) = code.Some (wide k c)

-- the best of all places
abbrev pub held_best : Kind → List Float → Settings → code.Option Candidate
held_best k samples s = held_of k (best k s (seen k samples))

-- the first seven bytes of it
abbrev pub cut_candidate : Candidate → Candidate
cut_candidate c =
    record {
      location = c.location;
      message = take 7 c.message;
      prompt = c.prompt;
      cn0 = c.cn0;
      undecided = c.undecided;
    }

abbrev pub cut_held : code.Option Candidate → code.Option ShortCandidate
cut_held code.None = code.None
cut_held (code.Some c) = code.Some (short_candidate (cut_candidate c))

abbrev pub cut_answer : Answer → Answer
cut_answer a =
    record {
      number = a.number;
      location = a.location;
      message = take 7 a.message;
      cn0 = a.cn0;
      index = a.index;
      fraction = a.fraction;
      undecided = a.undecided;
    }

-- ---- timing

-- the power of a message at a place, from the symbols of all clock phases
unfoldable pub power_in : Kind → List Float → Place → List ℕ → Float
power_in k symbols p message = power_of k.bytes (symbols_at k.bytes (take 576 (drop (576 * p.phase) symbols)) p) message

-- its powers one and two clock phases either way of sample s
unfoldable pub around_in : Kind → List Float → List ℕ → ℕ → Around
around_in k symbols message s =
    record {
      earliest = power_in k symbols (starting_at (s - 2)) message;
      earlier = power_in k symbols (starting_at (s - 1)) message;
      later = power_in k symbols (starting_at (s + 1)) message;
      latest = power_in k symbols (starting_at (s + 2)) message;
    }

-- the timing by its power and those around it: the earlier one takes over, then the later one
unfoldable pub timed_by : Float → Around → Timing
timed_by x a =
    let on = timing_of (fraction_of (parabola x a.later a.latest) Later) in
    cond (lt x a.earlier)
    (cond (lt a.earlier a.later) on (timing_of (fraction_of (parabola a.earliest a.earlier x) Earlier)))
    (cond (lt x a.later) on (timing_of (fraction_of (parabola a.earlier x a.later) Same)))

-- all that timing looks at
unfoldable pub seen_in : Kind → List Float → Window
seen_in k symbols = record { bits = λ slicer p. []; undecided = λ slicer p. 0; distance = λ p. 0; prompt = power_in k symbols; cn0 = power_in k symbols }

-- a location that is searched: one of the places, with a record that is taken
pub record Searched (k : Kind) (l : Location) : Type 0 where
  pub place : listed k.last l.place ≡ true
  pub taken : location_number k.bytes l ≡ 0

-- when a message came, from the symbols
unfoldable pub arrival_in : Kind → List Float → Location → List ℕ → ℕ → Arrival
arrival_in k symbols l message index =
    let t = timing_at (seen_in k symbols) message l in
    record { index = index_of index (sample_start l.place) t.moves; fraction = t.fraction }

-- what is found is a location that is searched, and has its power there
pub record Weighed (k : Kind) (symbols : List Float) (x : code.Option Candidate) : Type 0 where
  pub at : (c : Candidate) → x ≡ code.Some c → Searched k c.location
  pub power : (c : Candidate) → x ≡ code.Some c → c.prompt ≡ power_in k symbols c.location.place (take k.bytes c.message)

-- what is found, with its time
unfoldable pub answer_in : Kind → List Float → ℕ → code.Option Candidate → Answer
answer_in k symbols index code.None = refused_answer long 1
answer_in k symbols index (code.Some c) =
    let t = arrival_in k symbols c.location (take k.bytes c.message) index in
    record {
      number = 0;
      location = c.location;
      message = c.message;
      cn0 = c.cn0;
      index = t.index;
      fraction = t.fraction;
      undecided = c.undecided;
    }

-- ---- the search

-- what the scan has made of the samples
pub record Scanned (k : Kind) (samples : List Float) (coherent noncoherent crcs others : List ℕ) : Type 0 where
  pub whole : length samples ≡ 2310
  pub first : coherent ≡ bits_from Coherent samples
  pub second : noncoherent ≡ bits_from Noncoherent samples
  pub first_crcs : crcs ≡ crcs_in k.bytes (bits_from Coherent samples) (8 * k.last)
  pub second_crcs : others ≡ crcs_in k.bytes (bits_from Noncoherent samples) (8 * k.last)

-- all that a search looks at
pub record Ready (k : Kind) (samples symbols : List Float) (coherent noncoherent crcs others : List ℕ) : Type 0 where
  pub scanned : Scanned k samples coherent noncoherent crcs others
  pub sums : symbols ≡ symbols_of samples

-- a newcomer takes over if there is no holder or it beats the holder
abbrev pub takes_over : code.Option Candidate → Candidate → Bool
takes_over code.None new = true
takes_over (code.Some held) new = beats new held

-- what is held then
abbrev pub chosen_of : code.Option Candidate → code.Option Candidate → code.Option Candidate
chosen_of held code.None = held
chosen_of held (code.Some new) = cond (takes_over held new) (code.Some new) held

-- the best of some places, given by their numbers, held on from h
unfoldable pub over : (Place → Option Candidate) → (ℕ → Place) → Option Candidate → List ℕ → Option Candidate
over f at h ks = foldl (λ held k. better held (f (at k))) h ks

-- a stream, and a bit offset at which a message ends within it
pub record Stream (k : Kind) (stream : List ℕ) (bit : ℕ) : Type 0 where
  pub size : length stream ≡ 18
  pub low : bit ≤ 144 - 8 * k.bytes

-- two streams
pub record Streams (k : Kind) (coherent noncoherent : List ℕ) (bit : ℕ) : Type 0 where
  pub first : Stream k coherent bit
  pub second : Stream k noncoherent bit

-- the bits by starting sample of both slicers, a lane of them, and a bit offset at which a message ends within it
pub record Lane (k : Kind) (coherent noncoherent : List ℕ) (lane bit : ℕ) : Type 0 where
  pub first : length coherent ≡ 1152
  pub second : length noncoherent ≡ 1152
  pub low : lane < 8
  pub ends : bit ≤ 144 - 8 * k.bytes

-- positions that are found lie in a message
abbrev pub found_inside : Kind → Found → Bool
found_inside k Nothing = true
found_inside k (At ρ) = inside k.bytes ρ

-- what clears a remainder, as far as a level asks for it
pub record Finds (k : Kind) (level r : ℕ) (c : Found) : Type 0 where
  pub each : (n : ℕ) → n ≤ level → only c n ≡ clearing k.bytes n r
  pub lies : found_inside k c ≡ true

-- what a code says: its positions, and what clears
unfoldable pub repairs_of : ℕ → Repairs
repairs_of c = cond (eqb (c / 256) absent) None (cond (eqb (c % 256) absent) (One (c / 256)) (Two (c / 256) (c % 256)))

unfoldable pub found_of : ℕ → Found
found_of c = cond (leb 65536 c) Nothing (At (repairs_of c))

-- what clears a remainder, from its code; 0 needs none
unfoldable pub found_by : ℕ → ℕ → Found
found_by r code = cond (eqb r 0) (At None) (found_of code)

-- a list of places, with the codes of what clears the two messages of each
pub record Listing (k : Kind) (level : ℕ) (crcs others list codes : List ℕ) (count : ℕ) : Type 0 where
  pub few : count ≤ 8 * k.last
  pub places : length list ≡ 8 * k.last
  pub many : length codes ≡ 16 * k.last
  pub low : (q : ℕ) → q < count → get_or list q 0 < 8 * k.last
  pub first : (q : ℕ) → q < count
      → Finds k level (get_or crcs (lane_of (get_or list q 0)) 0) (found_by (get_or crcs (lane_of (get_or list q 0)) 0) (get_or codes (2 * q) 0))
  pub second : (q : ℕ) → q < count
      → Finds k level (get_or others (lane_of (get_or list q 0)) 0) (found_by (get_or others (lane_of (get_or list q 0)) 0) (get_or codes (2 * q + 1) 0))

-- the code of what clears message i, where every place has two: the coherent slicer's, then the other's
unfoldable pub trial_code : Kind → ℕ → List ℕ → List ℕ → ℕ → ℕ
trial_code k level coherent noncoherent i =
    let p = place_at (i / 2) in
    let stream = lane_bytes (cond (eqb (i % 2) 0) coherent noncoherent) (4 * p.symbol + p.phase) in
    code_up_to k.bytes level (remainder (message_at stream k.bytes p.bit))

-- what clears the two messages there, and whether their remainders differ
pub record Known (k : Kind) (level : ℕ) (coherent noncoherent : List ℕ) (bit : ℕ) (c d : Found) (apart : Bool) : Type 0 where
  pub first : Finds k level (remainder (message_at coherent k.bytes bit)) c
  pub second : Finds k level (remainder (message_at noncoherent k.bytes bit)) d
  pub differ : apart ≡ not (eqb (remainder (message_at coherent k.bytes bit)) (remainder (message_at noncoherent k.bytes bit)))

-- what is seen at a place, from the row and the streams in which it lies; no bit of it is marked
unfoldable pub seen_at : Kind → List Float → List Float → List ℕ → List ℕ → Window
seen_at k samples row coherent noncoherent =
    let n = k.bytes in
    record {
      bits = λ slicer p. message_at (chosen slicer coherent noncoherent) n p.bit;
      undecided = λ slicer p. 0;
      distance = λ p. differing (message_at coherent n p.bit) (message_at noncoherent n p.bit) (8 * n);
      prompt = λ p message. power_of n (symbols_at n row p) message;
      cn0 = λ p message. cn0_of (power_of n (symbols_at n row p) message) (noise_of n (samples_at n samples p) message);
    }

-- what is read, with its undecided bits counted from the symbols of all clock phases
abbrev pub counted_in : Kind → List Float → Candidate → Candidate
counted_in k symbols c =
    let p = c.location.place in
    record {
      location = c.location;
      message = c.message;
      prompt = c.prompt;
      cn0 = c.cn0;
      undecided = undecided_in c.location.slicer (symbols_at k.bytes (take 576 (drop (576 * p.phase) symbols)) p) (8 * k.bytes);
    }

abbrev pub counted_held : Kind → List Float → code.Option Candidate → code.Option Candidate
counted_held k symbols code.None = code.None
counted_held k symbols (code.Some c) = code.Some (counted_in k symbols c)

-- a trial counts only where none before it passed
unfoldable pub or_try : Tried → Tried → Tried
or_try (Pass r) t = Pass r
or_try Fail t = t
