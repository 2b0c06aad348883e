-- What is read at a place is the window's, and the search is a scan of the places in their order.
--     scanned_sizes    the arrays' lengths
--     scan_done, both_scanned     what a scan has written: for one kind of message, for both
--     crc_at_law           the remainder of a place
--     lent_read        the row and the streams of a place are those that the window has there
--     lent_known       what clears the two messages, and whether their remainders differ
--     best_is          all places
-- Assumes nothing.
use Rattle.std.specs.Prelude as code
use mathlib.Core.Path.{◌≡◌, refl, sym, ap, ◌∙◌, subst}
use mathlib.Core.Bool.{Bool, true, not, cond}
use mathlib.Core.List.{List}
use mathlib.Core.Option.{none, some}
use Prim.Native.Nat.{ℕ, ◌+◌, ◌-◌, ◌*◌, ◌<◌, ◌≤◌, min}
use native.Mathlib.Omega.{arith}
use borrow.Author.Tests.{eq-eqb}
use lib.Dec.{eqb}
use lib.ListN.{length, get_or, take, drop}
use lib.Ieee.{Float}
use Rattle.lists.specs.From.{tabulate}
use Rattle.lists.proofs.Table.{length_tabulate, get_d_tabulate}
use Rattle.annex10.specs.Remainder.{remainder}
use Rattle.annex10.specs.declared.Found.{Found}
use Rattle.place.specs.declared.Place.{Place}
use Rattle.place.specs.declared.Slicer.{Slicer}
use Rattle.place.specs.declared.Slicer.TheVariants.{Coherent, Noncoherent}
use Rattle.place.specs.declared.location.Location.{Location}
use Rattle.parts.specs.Part.{chosen}
use Rattle.place.specs.Step.{sample_start}
use Rattle.place.specs.All.{listed, place_at}
use Rattle.place.proofs.Within.{listed_gives}
use Rattle.place.proofs.All.{counted}
use Rattle.kernels.specs.Symbols.{sums_of, symbols_of}
use Rattle.kernels.proofs.Summing.{symbols_length}
use Rattle.streams.specs.Streams.{message_at}
use Rattle.scan.specs.Flat.{bits_from, crc_in, crcs_in, message_from, room_for, scanned, scanned_both}
use Rattle.scan.specs.Lanes.{lane_bytes}
use Rattle.scan.proofs.Comparing.{scanned_done, both_done}
use Rattle.scan.proofs.Starting.{bits_start, stream_lane, digits_of}
use Rattle.search.specs.declared.Settings.{Settings}
use Rattle.search.specs.declared.Tried.{Tried}
use Rattle.search.specs.declared.Tried.TheVariants.{Pass, Fail}
use Rattle.search.specs.declared.Candidate.{Candidate}
use Rattle.search.specs.Trials.{reading}
use Rattle.search.proofs.Passing.{Passes, sound}
use Rattle.search.specs.Choice.{candidate, dropped, survivor, candidate_at, scan, best}
use Rattle.search.specs.Window.{Window, unmarked}
use Rattle.search.specs.Kinds.{Kind, long, short}
use Rattle.search.specs.Seen.{row, stream, bits_at, prompt_at, noise_at, window_of, seen}
use Rattle.receiver.specs.Inner.{Scanned, Ready, held_of, Finds, found_by, Lane, Known, seen_at}
use Rattle.receiver.proofs.EitherKind.{Right}

pub record Sizes (k : Kind) (coherent noncoherent crcs others : List ℕ) : Type 0 where
  pub first : length coherent ≡ 1152
  pub second : length noncoherent ≡ 1152
  pub first_crcs : length crcs ≡ 8 * k.last
  pub second_crcs : length others ≡ 8 * k.last

crcs_length : (k : Kind) (slicer : Slicer) (samples : List Float) → length (crcs_in k.bytes (bits_from slicer samples) (8 * k.last)) ≡ 8 * k.last
unfolding crcs_in
crcs_length k slicer samples = length_tabulate (8 * k.last) (crc_in k.bytes (bits_from slicer samples))

pub scanned_sizes : (k : Kind) (samples : List Float) (coherent noncoherent crcs others : List ℕ) → Scanned k samples coherent noncoherent crcs others
    → Sizes k coherent noncoherent crcs others
scanned_sizes k samples coherent noncoherent crcs others w =
    record {
      first = ap length w.first ∙ (digits_of Coherent samples).size;
      second = ap length w.second ∙ (digits_of Noncoherent samples).size;
      first_crcs = ap length w.first_crcs ∙ crcs_length k Coherent samples;
      second_crcs = ap length w.second_crcs ∙ crcs_length k Noncoherent samples;
    }

pub symbols_there : (samples : List Float) {symbols : List Float} → symbols ≡ symbols_of samples → length symbols ≡ 2304
symbols_there samples e = ap length e ∙ symbols_length samples

-- what a scan has written
room_made : (many : ℕ) (z : List Float) (a b c d : List ℕ) → length z ≡ 2304 → length a ≡ 1152 → length b ≡ 1152 → length c ≡ many → length d ≡ many
    → room_for many z a b c d ≡ true
unfolding room_for
room_made many z a b c d hz ha hb hc hd = simp (eq-eqb _ _ hz, eq-eqb _ _ ha, eq-eqb _ _ hb, eq-eqb _ _ hc, eq-eqb _ _ hd)

pub scan_done : (k : Kind) (samples z : List Float) (a b c d : List ℕ) {n : ℕ} {sums : List Float} {coherent noncoherent crcs others : List ℕ}
    → length samples ≡ 2310 → length z ≡ 2304 → length a ≡ 1152 → length b ≡ 1152 → length c ≡ 8 * k.last → length d ≡ 8 * k.last
    → ◌≡◌ {A = ℕ × List Float × List ℕ × List ℕ × List ℕ × List ℕ} (n, sums, coherent, noncoherent, crcs, others) (scanned k.bytes (8 * k.last) samples z a b c d)
    → Scanned k samples coherent noncoherent crcs others × (sums ≡ sums_of samples)
scan_done k samples z a b c d h hz ha hb hc hd e =
    let q = e ∙ scanned_done k.bytes (8 * k.last) samples z a b c d h (room_made (8 * k.last) z a b c d hz ha hb hc hd) in (
      record {
        whole = h;
        first = ap (λ (x : ℕ × List Float × List ℕ × List ℕ × List ℕ × List ℕ). x.2) q;
        second = ap (λ (x : ℕ × List Float × List ℕ × List ℕ × List ℕ × List ℕ). x.3) q;
        first_crcs = ap (λ (x : ℕ × List Float × List ℕ × List ℕ × List ℕ × List ℕ). x.4) q;
        second_crcs = ap (λ (x : ℕ × List Float × List ℕ × List ℕ × List ℕ × List ℕ). x.5) q;
      },
      ap (λ (x : ℕ × List Float × List ℕ × List ℕ × List ℕ × List ℕ). x.1) q,
    )

-- one for both kinds of message
abbrev Seven : Type 0
Seven = ℕ × List Float × List ℕ × List ℕ × List ℕ × List ℕ × List ℕ × List ℕ

pub both_scanned : (samples z : List Float) (a b c d e f : List ℕ) {n : ℕ} {sums : List Float} {coherent noncoherent crcs others short_crcs short_others : List ℕ}
    → length samples ≡ 2310 → length z ≡ 2304 → length a ≡ 1152 → length b ≡ 1152 → length c ≡ 248 → length d ≡ 248 → length e ≡ 696 → length f ≡ 696
    → ◌≡◌ {A = Seven} (n, sums, coherent, noncoherent, crcs, others, short_crcs, short_others) (scanned_both samples z a b c d e f)
    → Scanned long samples coherent noncoherent crcs others × Scanned short samples coherent noncoherent short_crcs short_others × (sums ≡ sums_of samples)
unfolding long short
both_scanned samples z a b c d e f h hz ha hb hc hd he hf g =
    let q = g ∙ both_done samples z a b c d e f h (room_made 248 z a b c d hz ha hb hc hd) he hf in (
      record {
        whole = h;
        first = ap (λ (x : Seven). x.2) q;
        second = ap (λ (x : Seven). x.3) q;
        first_crcs = ap (λ (x : Seven). x.4) q;
        second_crcs = ap (λ (x : Seven). x.5) q;
      },
      record {
        whole = h;
        first = ap (λ (x : Seven). x.2) q;
        second = ap (λ (x : Seven). x.3) q;
        first_crcs = ap (λ (x : Seven). x.6) q;
        second_crcs = ap (λ (x : Seven). x.7) q;
      },
      ap (λ (x : Seven). x.1) q,
    )

-- where a place starts
pub record Start (m : ℕ) (p : Place) : Type 0 where
  pub low : 8 ≤ sample_start p
  pub high : sample_start p < 8 + 8 * m
  pub lane : 8 * p.bit + (4 * p.symbol + p.phase) - 8 ≡ sample_start p - 8

pub starts : (m : ℕ) (p : Place) → listed m p ≡ true → Start m p
starts m p h =
    let l = listed_gives m p h in
    record { low = omega (arith, l.from, l.to, l.phase, l.symbol); high = omega (arith, l.from, l.to, l.phase, l.symbol); lane = omega arith }

-- ---- what is seen at the place is what the window has there

module _ (k : Kind) (samples : List Float) (p : Place) where
  abbrev here : Window
  here = seen_at k samples (row samples p.phase) (stream samples Coherent p) (stream samples Noncoherent p)

  same_bits : (slicer : Slicer) → message_at (chosen slicer (stream samples Coherent p) (stream samples Noncoherent p)) k.bytes p.bit ≡ message_at (stream samples slicer p) k.bytes p.bit
  same_bits Coherent = refl
  same_bits Noncoherent = refl

  same_candidate : (r : Location) → r.place ≡ p → candidate here r ≡ candidate (unmarked (seen k samples)) r
  unfolding candidate seen_at window_of bits_at prompt_at noise_at
  same_candidate r e = rw (e, same_bits r.slicer)

  same_distance : (r : Location) → r.place ≡ p → here.distance r.place ≡ (seen k samples).distance r.place
  unfolding seen_at window_of bits_at
  same_distance r e = rw e

  same_survivor : (s : Settings) (t : Tried) → Passes (λ r. r.place ≡ p) t → survivor s here t ≡ survivor s (unmarked (seen k samples)) t
  unfolding survivor
  same_survivor s Fail h = refl
  same_survivor s (Pass r) h =
      let e = h.so r refl in
      ap (λ (c : Candidate). cond (dropped s (here.distance r.place) c) none (some c)) (same_candidate r e)
      ∙ ap (λ (d : ℕ). cond (dropped s d (candidate (unmarked (seen k samples)) r)) none (some (candidate (unmarked (seen k samples)) r))) (same_distance r e)

  same_reading : (level : ℕ) → reading k level p (here.bits Coherent p) (here.bits Noncoherent p)
      ≡ reading k level p ((seen k samples).bits Coherent p) ((seen k samples).bits Noncoherent p)
  unfolding seen_at window_of bits_at
  same_reading level = refl

  at_place : (level : ℕ) (c d : List ℕ) → Passes (λ r. r.place ≡ p) (reading k level p c d)
  at_place level c d = record { so = λ r e. ((sound k level p c d).so r e).place }

  pub seen_there : (s : Settings) → candidate_at k s here p ≡ candidate_at k s (unmarked (seen k samples)) p
  unfolding candidate_at
  seen_there s =
      same_survivor s _ (at_place (min s.level k.most) (here.bits Coherent p) (here.bits Noncoherent p))
      ∙ ap (survivor s (unmarked (seen k samples))) (same_reading (min s.level k.most))

-- ---- the remainder of a place

pub crc_at_law : (k : Kind) → Right k → (slicer : Slicer) (samples : List Float) (p : Place) → listed k.last p ≡ true
    → get_or (crcs_in k.bytes (bits_from slicer samples) (8 * k.last)) (sample_start p - 8) 0 ≡ remainder (message_at (stream samples slicer p) k.bytes p.bit)
unfolding crcs_in crc_in bits_at
crc_at_law k r slicer samples p h =
    let l = listed_gives k.last p h in
    let t = starts k.last p h in
    let e : 8 + (sample_start p - 8) ≡ sample_start p = omega (arith, t.low) in
    let i : sample_start p - 8 < 8 * k.last = omega (arith, t.low, t.high) in
    get_d_tabulate (8 * k.last) (λ (j : ℕ). remainder (message_from k.bytes (bits_from slicer samples) (8 + j))) (sample_start p - 8) 0 i
    ∙ ap (λ (j : ℕ). remainder (message_from k.bytes (bits_from slicer samples) j)) e
    ∙ ap remainder (sym (bits_start k.bytes slicer samples p (omega (arith, l.phase)) (omega (arith, l.symbol)) (omega (arith, l.to, r.last))))

-- ---- what the code lends

module _ (k : Kind) (right : Right k) (samples symbols : List Float) (coherent noncoherent crcs others : List ℕ) (ready : Ready k samples symbols coherent noncoherent crcs others)
    (p : Place) (h : listed k.last p ≡ true) where
  abbrev lane : ℕ
  lane = 4 * p.symbol + p.phase

  abbrev first : List ℕ
  first = lane_bytes coherent lane

  abbrev second : List ℕ
  second = lane_bytes noncoherent lane

  first_is : first ≡ stream samples Coherent p
  first_is =
      let l = listed_gives k.last p h in
      ap (λ (x : List ℕ). lane_bytes x lane) ready.scanned.first ∙ stream_lane Coherent samples p (omega (arith, l.phase)) (omega (arith, l.symbol))

  second_is : second ≡ stream samples Noncoherent p
  second_is =
      let l = listed_gives k.last p h in
      ap (λ (x : List ℕ). lane_bytes x lane) ready.scanned.second ∙ stream_lane Noncoherent samples p (omega (arith, l.phase)) (omega (arith, l.symbol))

  pub lent_read : (s : Settings) {x : code.Option Candidate} {lent : List Float} → lent ≡ take 576 (drop (576 * p.phase) symbols)
      → x ≡ held_of k (candidate_at k s (seen_at k samples lent first second) p)
      → x ≡ held_of k (candidate_at k s (unmarked (seen k samples)) p)
  unfolding row
  lent_read s z e =
      let r : take 576 (drop (576 * p.phase) symbols) ≡ row samples p.phase = rw ready.sums in
      e ∙ rw (z, r, first_is, second_is) (ap (held_of k) (seen_there k samples p s))

  pub lent_lane : Lane k coherent noncoherent lane p.bit
  lent_lane =
      let l = listed_gives k.last p h in
      let z = scanned_sizes k samples coherent noncoherent crcs others ready.scanned in
      record { first = z.first; second = z.second; low = omega (arith, l.phase, l.symbol); ends = omega (arith, l.to, right.last) }

  -- i is where the remainders stand; x and y are the codes of what clears them
  pub lent_known : (level i x y : ℕ) {c d : Found} {apart : Bool} → i ≡ sample_start p - 8
      → Finds k level (get_or crcs (sample_start p - 8) 0) (found_by (get_or crcs (sample_start p - 8) 0) x)
      → Finds k level (get_or others (sample_start p - 8) 0) (found_by (get_or others (sample_start p - 8) 0) y)
      → c ≡ found_by (get_or crcs i 0) x → d ≡ found_by (get_or others i 0) y → apart ≡ not (eqb (get_or crcs i 0) (get_or others i 0))
      → Known k level first second p.bit c d apart
  lent_known level i x y {c} {d} z f g cs ds e =
      let u : get_or crcs (sample_start p - 8) 0 ≡ remainder (message_at first k.bytes p.bit)
      = ap (λ (t : List ℕ). get_or t (sample_start p - 8) 0) ready.scanned.first_crcs ∙ crc_at_law k right Coherent samples p h ∙ rw (← first_is) in
      let v : get_or others (sample_start p - 8) 0 ≡ remainder (message_at second k.bytes p.bit)
      = ap (λ (t : List ℕ). get_or t (sample_start p - 8) 0) ready.scanned.second_crcs ∙ crc_at_law k right Noncoherent samples p h ∙ rw (← second_is) in
      let m : c ≡ found_by (get_or crcs (sample_start p - 8) 0) x = cs ∙ ap (λ (j : ℕ). found_by (get_or crcs j 0) x) z in
      let n : d ≡ found_by (get_or others (sample_start p - 8) 0) y = ds ∙ ap (λ (j : ℕ). found_by (get_or others j 0) y) z in
      record {
        first = subst (λ (r : ℕ). Finds k level r c) u (subst (Finds k level (get_or crcs (sample_start p - 8) 0)) (sym m) f);
        second = subst (λ (r : ℕ). Finds k level r d) v (subst (Finds k level (get_or others (sample_start p - 8) 0)) (sym n) g);
        differ = e ∙ ap (λ (j : ℕ). not (eqb (get_or crcs j 0) (get_or others j 0))) z ∙ rw (u, v);
      }

-- ---- the search

pub best_is : (k : Kind) (s : Settings) (w : Window) → scan (candidate_at k s w) none (tabulate (8 * k.last) place_at) ≡ best k s w
unfolding best
best_is k s w = ap (scan (candidate_at k s w) none) (counted k.last)
