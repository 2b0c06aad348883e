-- What is read at a location, from the parts that are lent for it.
--     symbols_lent, part_whole     the symbols of a location, and that they are all there
--     power_in_law, around_in_law, both_is      the powers of a message
--     undecided_is           how many of its bits were undecided
--     bytes_are, message_is     the named slicer's bits, and repaired
-- Assumes nothing.
use mathlib.Core.Path.{◌≡◌, ap, ◌∙◌}
use mathlib.Core.List.{List}
use Prim.Native.Nat.{ℕ, ◌*◌, ◌%◌, ◌≤◌}
use native.Mathlib.Omega.{arith}
use lib.ListN.{length, take, drop, length-drop}
use lib.Seq.{length-take-le}
use lib.Ieee.{Float}
use Rattle.lists.specs.Told.{Told, done}
use Rattle.annex10.specs.Repair.{repaired}
use Rattle.mode_s.specs.Corrected.{corrected}
use Rattle.mode_s.proofs.Correcting.{corrected_done}
use Rattle.place.specs.declared.Place.{Place}
use Rattle.place.specs.declared.location.Location.{Location}
use Rattle.place.specs.Agrees.{location_number}
use Rattle.place.proofs.Within.{Within, within_gives}
use Rattle.place.proofs.Agreeing.{located_gives}
use Rattle.parts.specs.Part.{symbols_at, samples_at, symbols_for, samples_for, chosen, part_size, slicer_part}
use Rattle.parts.proofs.Taken.{row_is, symbols_done, samples_done, symbols_long, samples_long, streams_is, part_done, part_long}
use Rattle.slicing.specs.Undecided.{undecided_in, undecided_of}
use Rattle.slicing.proofs.Counting.{undecided_done}
use Rattle.powers.specs.declared.both.Powers.{Powers}
use Rattle.powers.specs.Powers.{power_of, noise_of, power_at}
use Rattle.powers.specs.declared.around.Around.{Around}
use Rattle.powers.specs.Both.{powers_at}
use Rattle.powers.specs.Around.{around_at}
use Rattle.powers.proofs.Measuring.{power_done, powers_done, around_done}
use Rattle.streams.specs.Streams.{message_at}
use Rattle.streams.specs.Messages.{part_message}
use Rattle.streams.proofs.Parting as Parting
use Rattle.streams.proofs.Reading.{message_length_law}
use Rattle.search.specs.Kinds.{Kind}
use Rattle.receiver.specs.Inner.{power_in, Streams}
use Rattle.receiver.proofs.EitherKind.{Right}

module _ (k : Kind) (r : Right k) where
  abbrev n : ℕ
  n = k.bytes

  -- the symbols of a place, from those of all clock phases
  abbrev pub part_in : List Float → Place → List Float
  part_in symbols p = symbols_at n (take 576 (drop (576 * p.phase) symbols)) p

  few : n ≤ 18
  few = omega (arith, r.high)

  -- the place of a location that is taken
  pub stands : (l : Location) → location_number n l ≡ 0 → Within n l.place
  stands l e = within_gives n l.place (located_gives n l e).place

  -- the parts that are lent for it
  pub symbols_lent : (row : List Float) (l : Location) {part : List Float} → length row ≡ 576 → location_number n l ≡ 0 → part ≡ symbols_for n row l
      → part ≡ symbols_at n row l.place
  symbols_lent row l h t e = e ∙ symbols_done n row l (row_is 576 n row l h t)

  samples_lent : (samples : List Float) (l : Location) {part : List Float} → length samples ≡ 2310 → location_number n l ≡ 0 → part ≡ samples_for n samples l
      → part ≡ samples_at n samples l.place
  samples_lent samples l h t e = e ∙ samples_done n samples l (row_is 2310 n samples l h t)

  pub row_long : (symbols : List Float) (p : Place) → length symbols ≡ 2304 → Within n p → length (take 576 (drop (576 * p.phase) symbols)) ≡ 576
  row_long symbols p l v =
      let xs = drop (576 * p.phase) symbols in
      length-take-le 576 xs (rw (length-drop (576 * p.phase) symbols, l) (omega (arith, v.phase)))

  pub part_whole : (symbols : List Float) (p : Place) → length symbols ≡ 2304 → Within n p → length (part_in symbols p) ≡ 32 * n
  part_whole symbols p l v = symbols_long n (take 576 (drop (576 * p.phase) symbols)) p few v (row_long symbols p l v)

  pub power_in_law : (symbols : List Float) (l : Location) (message : List ℕ) {part : List Float} {a : Told Float} → length symbols ≡ 2304 → location_number n l ≡ 0
      → length message ≡ n → part ≡ part_in symbols l.place → a ≡ power_at part message → a ≡ done (power_in k symbols l.place message)
  unfolding power_in
  power_in_law symbols l message h t m e f =
      f ∙ ap (λ (x : List Float). power_at x message) e
      ∙ power_done n message r.whole m (part_in symbols l.place) (part_whole symbols l.place h (stands l t))

  -- the powers at four locations at once
  pub around_in_law : (symbols : List Float) (message : List ℕ) (p q s t : Location) {a b c d : List Float} {x : Told Around} → length symbols ≡ 2304
      → location_number n p ≡ 0 → location_number n q ≡ 0 → location_number n s ≡ 0 → location_number n t ≡ 0 → length message ≡ n
      → a ≡ part_in symbols p.place → b ≡ part_in symbols q.place → c ≡ part_in symbols s.place → d ≡ part_in symbols t.place → x ≡ around_at a b c d message
      → x ≡ done (record { earliest = power_in k symbols p.place message; earlier = power_in k symbols q.place message; later = power_in k symbols s.place message; latest = power_in k symbols t.place message })
  unfolding power_in
  around_in_law symbols message p q s t l wp wq ws wt m ea eb ec ed er =
      er ∙ rw (ea, eb, ec, ed)
      (around_done n message r.whole m _ _ _ _ (part_whole symbols p.place l (stands p wp)) (part_whole symbols q.place l (stands q wq))
      (part_whole symbols s.place l (stands s ws)) (part_whole symbols t.place l (stands t wt)))

  pub both_is : (samples row : List Float) (l : Location) (message : List ℕ) {a b : List Float} {x : Told Powers} → length samples ≡ 2310 → length row ≡ 576
      → location_number n l ≡ 0 → length message ≡ n → a ≡ symbols_for n row l → b ≡ samples_for n samples l → x ≡ powers_at a b message
      → x ≡ done (record { prompt = power_of n (symbols_at n row l.place) message; noise = noise_of n (samples_at n samples l.place) message })
  both_is samples row l message z h t m ea eb er =
      let x = symbols_long n row l.place few (stands l t) h in
      let y = samples_long n samples l.place few (stands l t) z in
      er ∙ rw (symbols_lent row l h t ea, samples_lent samples l z t eb) (powers_done n message r.whole m _ _ x y)

  pub undecided_is : (row : List Float) (l : Location) {part : List Float} {a : Told ℕ} → length row ≡ 576 → location_number n l ≡ 0
      → part ≡ symbols_for n row l → a ≡ undecided_of part l.slicer → a ≡ done (undecided_in l.slicer (symbols_at n row l.place) (8 * n))
  undecided_is row l h t ea er =
      let x = symbols_long n row l.place few (stands l t) h in
      er ∙ rw (symbols_lent row l h t ea) (undecided_done l.slicer (symbols_at n row l.place) n r.whole x)

  -- the bytes of a part of a stream
  pub bytes_are : (c d : List ℕ) (l : Location) {part : List ℕ} → Streams k c d l.place.bit → location_number n l ≡ 0
      → part ≡ slicer_part n c d l → part_message n part l.place.bit ≡ done (message_at (chosen l.slicer c d) n l.place.bit)
  bytes_are c d l {part} w i e =
      let s = chosen l.slicer c d in
      let bit = l.place.bit in
      let t = streams_is n c d l w.first.size w.second.size i in
      let z : length part ≡ part_size n bit = ap length e ∙ part_long n c d l few t in
      let q : message_at part n (bit % 8) ≡ message_at s n bit
      = ap (λ (x : List ℕ). message_at x n (bit % 8)) (e ∙ part_done n c d l t) ∙ Parting.message_part s n (part_size n bit) bit (Parting.enough n bit) in
      Parting.part_done n part bit z w.first.low ∙ ap done q

  -- and repaired
  pub message_is : (s : List ℕ) (l : Location) {bytes last : List ℕ} {x : ℕ} → location_number n l ≡ 0
      → bytes ≡ message_at s n l.place.bit → ◌≡◌ {A = ℕ × List ℕ} (x, last) (corrected l.repairs bytes)
      → last ≡ repaired (message_at s n l.place.bit) l.repairs
  message_is s l {bytes} i y g =
      ap (λ (x : ℕ × List ℕ). x.1) (g ∙ corrected_done n bytes l.repairs r.whole (ap length y ∙ message_length_law s n l.place.bit) (located_gives n l i).rest.inside)
      ∙ ap (λ (x : List ℕ). repaired x l.repairs) y
