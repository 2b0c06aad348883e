-- Laws of what a decode answers, whatever the samples, the settings and the index are.
--     decode_kept     it is stored and has as many bytes as its kind
--     decode_taken    of a message the location is taken: location_number kind.bytes (decode_of kind samples s index).location ≡ 0
--     decode_own      it is said by its own number
--     decodes_said    of both kinds: a message, none or one refusal
-- Assumes nothing.
use mathlib.Core.Path.{◌≡◌, refl, sym, ◌∙◌, subst}
use mathlib.Core.Bool.{Bool, true, false, cond, ◌&&◌}
use mathlib.Core.List.{List, [], ◌∷◌}
use mathlib.Core.Logic.{◌≢◌, ◌⊎◌, inl, inr}
use mathlib.Core.Option.{Option, none, some}
use Prim.Native.Nat.{ℕ, zero, suc, ◌+◌, ◌-◌, ◌*◌, ◌/◌, ◌%◌, ◌^◌, ◌<◌, ◌≤◌}
use native.Mathlib.Omega.{arith}
use borrow.Author.Tests.{eqb-true, eqb-false, leb-true, ltb-true, ltb-false}
use lib.Bits.{xor_lt}
use lib.Dec.{T, eqb, leb, ltb}
use lib.Ieee.{Float, nan, inf, fin, binary32, fits, lt, le}
use lib.Ieee.Bits.{of_bits-fits}
use lib.Ieee.Scale.{finite}
use lib.Ieee.Fits.{cond-fits, nan-fits, inf-fits, add-fits, sub-fits, mul-fits}
use lib.ListN.{length, get_or, set, replicate, length-replicate, get_or-eq_default}
use lib.Pow.{pow-lt}
use Rattle.streams.specs.Streams.{message_at}
use Rattle.streams.proofs.Reading.{message_length_law}
use Rattle.lists.specs.Bits.{bit_at, value, packed}
use Rattle.lists.specs.From.{tabulate}
use Rattle.lists.proofs.Table.{length_tabulate, get_d_tabulate}
use Rattle.lists.proofs.Bits.{bit_at_lt, value_lt, how_many_le}
use Rattle.annex10.specs.Flip.{flip}
use Rattle.annex10.specs.Repair.{repaired}
use Rattle.annex10.proofs.Repairing.{length_repaired}
use Rattle.annex10.specs.declared.Repairs.{Repairs}
use Rattle.annex10.specs.declared.Repairs.TheVariants.{None, One, Two}
use Rattle.place.specs.declared.Place.{Place}
use Rattle.place.specs.declared.Slicer.{Slicer}
use Rattle.place.specs.declared.location.Location.{Location}
use Rattle.place.specs.Step.{sample_start, last_symbol}
use Rattle.place.specs.Agrees.{location_number}
use Rattle.place.proofs.Within.{Listed, listed_gives}
use Rattle.place.proofs.All.{member_listed}
use Rattle.cn0.specs.Logarithm.{ten_log10}
use Rattle.cn0.specs.Estimate.{cn0_of}
use Rattle.timing.specs.declared.Offset.{Offset}
use Rattle.timing.specs.Subsample.{one, halves, move, after_moves, fraction_of, timing_of}
use Rattle.timing.specs.declared.Moves.{Moves}
use Rattle.timing.specs.declared.Moves.TheVariants.{Back, On}
use Rattle.timing.specs.Inner.{moves_count}
use Rattle.timing.proofs.Laws.{few_moves}
use Rattle.search.specs.declared.Settings.{Settings}
use Rattle.search.specs.declared.Candidate.{Candidate}
use Rattle.search.specs.declared.Answer.{Answer}
use Rattle.search.specs.Window.{Window, ◌∈◌}
use Rattle.search.specs.Choice.{candidate, candidate_at, best}
use Rattle.search.specs.Kinds.{Kind, long, short, places_of}
use Rattle.search.specs.Seen.{stream, bits_at, marks_at, undecided_at, window_of, seen}
use Rattle.search.specs.When.{timing_at, moved, index_of}
use Rattle.search.specs.Answers.{or_number, window_number, settings_number, index_number, refused_answer, answer_of, answered, decode_of}
use Rattle.search.proofs.Passing.{sound}
use Rattle.search.proofs.Scanning.{not_some, scan_from, survivor_is}
use Rattle.search.proofs.Locating.{Makes, made_long, made_short, sited_taken, best_sited}
use Rattle.listing.specs.Lines.{said_number}
use Rattle.listing.specs.Determines.{Stored, Either}
use Rattle.listing.proofs.Numbered.{or_zero, said_own}

-- ---- messages

abbrev Bytes : List ℕ → Type 0
Bytes xs = (k : ℕ) → get_or xs k 0 < 256

message_bytes : (stream : List ℕ) (n offset : ℕ) → Bytes (message_at stream n offset)
unfolding message_at packed
message_bytes stream n offset k = go (ltb k n) refl
  where
    byte : ℕ → ℕ
    byte i = value (λ (j : ℕ). bit_at stream (offset + j)) (8 * i) 8

    go : (b : Bool) → ltb k n ≡ b → get_or (tabulate n byte) k 0 < 256
    go true e = rw (get_d_tabulate n byte k 0 (ltb-true k n e)) (value_lt _ (λ j. bit_at_lt stream (offset + j) refl) (8 * k) 8)
    go false e = rw (get_or-eq_default (tabulate n byte) 0 {n = k} (simp length_tabulate (ltb-false k n e))) (omega arith)

set_bytes : (m : List ℕ) (i v : ℕ) → v < 256 → Bytes m → Bytes (set m i v)
set_bytes [] i v h b k = b k
set_bytes (x ∷ m) zero v h b zero = h
set_bytes (x ∷ m) zero v h b (suc k) = b (suc k)
set_bytes (x ∷ m) (suc i) v h b zero = b zero
set_bytes (x ∷ m) (suc i) v h b (suc k) = set_bytes m i v h (λ l. b (suc l)) k

flip_bytes : (m : List ℕ) (j : ℕ) → Bytes m → Bytes (flip m j)
unfolding flip
flip_bytes m j h = set_bytes m (j / 8) _ (xor_lt 8 (get_or m (j / 8) 0) (2 ^ (7 - j % 8)) (h (j / 8)) (pow-lt {j = 8} (omega arith))) h

repaired_bytes : (m : List ℕ) (ρ : Repairs) → Bytes m → Bytes (repaired m ρ)
unfolding repaired
repaired_bytes m None h = h
repaired_bytes m (One j) h = flip_bytes m j h
repaired_bytes m (Two j k) h = flip_bytes (flip m j) k (flip_bytes m j h)

-- ---- floats

log_fits : (x : Float) → T (fits binary32 (ten_log10 x))
unfolding ten_log10
log_fits nan = nan-fits binary32
log_fits (inf true) = nan-fits binary32
log_fits (inf false) = inf-fits binary32 false
log_fits (fin s zero e) = inf-fits binary32 true
log_fits (fin true (suc m) e) = nan-fits binary32
log_fits (fin false (suc m) e) = mul-fits binary32 _ _

cn0_fits : (prompt power : Float) → T (fits binary32 (cn0_of prompt power))
unfolding cn0_of
cn0_fits prompt power = log_fits _

move_fits : (f : Float) → T (fits binary32 f) → T (fits binary32 (move f))
unfolding move
move_fits f h =
    cond-fits binary32 (lt f (halves true 1)) _ _ (add-fits binary32 f one) (cond-fits binary32 (le (halves false 1) f) _ _ (sub-fits binary32 f one) h)

timing_fits : (parabola : Float) (offset : Offset) → T (fits binary32 (timing_of (fraction_of parabola offset)).fraction)
unfolding timing_of after_moves fraction_of
timing_fits parabola offset = move_fits _ (move_fits _ (sub-fits binary32 _ _))

-- ---- the index

moved_few : (m : Moves) (i : ℕ) → moves_count m ≤ 2 → moved m i ≤ i + 2
moved_few (On n) i h = omega arith
moved_few (Back n) i h = omega arith

index_stored : (given start : ℕ) (f : Float) → given ≤ 2 ^ 63 → start ≤ 2000 → index_of given start (timing_of f).moves < 2 ^ 64
unfolding index_of
index_stored given start f h k = omega (arith, moved_few (timing_of f).moves (given - 128 + start) (few_moves f))

-- ---- the undecided bits

-- there are no more of them than bits
undecided_few : (n : ℕ) (samples : List Float) (slicer : Slicer) (p : Place) → undecided_at n samples slicer p ≤ 8 * n
unfolding undecided_at
undecided_few n samples slicer p =
    let marks = marks_at n samples slicer p in
    how_many_le (bit_at marks) (λ j. bit_at_lt marks j refl) (8 * n)

-- ---- the number

-- 0, or a refusal
abbrev Number : ℕ → Type 0
Number n = (n ≤ 6) × (n ≢ 1)

either : (b : Bool) (x y : ℕ) → Number x → Number y → Number (cond b x y)
either true x y h k = h
either false x y h k = k

abbrev refusal_of : List Float → Settings → ℕ → ℕ
refusal_of samples s index = or_number (window_number samples) (or_number (settings_number s) (index_number index))

refusal : (samples : List Float) (s : Settings) (index : ℕ) → Number (refusal_of samples s index)
unfolding window_number settings_number index_number
refusal samples s index =
    let taken : Number 0 = (omega arith, λ z. omega arith) in
    let i : Number (index_number index) = either (leb 128 index && leb index (2 ^ 63)) 0 6 taken (omega arith, λ z. omega arith) in
    let f : Number (cond (finite s.threshold && finite s.second) 0 5) = either (finite s.threshold && finite s.second) 0 5 taken (omega arith, λ z. omega arith) in
    let t : Number (settings_number s) = either (leb s.level 2) _ 4 f (omega arith, λ z. omega arith) in
    let w : Number (window_number samples) = either (eqb (length samples) 2310) 0 2 taken (omega arith, λ z. omega arith) in
    either (eqb (window_number samples) 0) _ _ (either (eqb (settings_number s) 0) _ _ i t) w

index_right : (index : ℕ) → index_number index ≡ 0 → index ≤ 2 ^ 63
unfolding index_number
index_right index = go (leb 128 index) (leb index (2 ^ 63)) refl
  where
    go : (a b : Bool) → leb index (2 ^ 63) ≡ b → ◌≡◌ {A = ℕ} (cond (a && b) 0 6) 0 → index ≤ 2 ^ 63
    go true true e q = leb-true index (2 ^ 63) e
    go true false e q = absurd (omega arith)
    go false b e q = absurd (omega arith)

-- ---- the answer

-- a message at the last place that is searched ends within the window, and no trial is made behind the last one for its length
pub record Room (kind : Kind) : Type 0 where
  last : 2 * kind.last + 1 ≤ last_symbol kind.bytes
  made : Makes kind

pub room_of : (kind : Kind) → Either kind → Room kind
unfolding long short
room_of kind (inl e) = rw e (record { last = omega arith; made = made_long })
room_of kind (inr e) = rw e (record { last = omega arith; made = made_short })

-- so it is short
pub few_bytes : (kind : Kind) → Room kind → kind.bytes ≤ 32
few_bytes kind room = omega (arith, room.last)

-- what holds of an answer of a decode
pub record Kept (kind : Kind) (a : Answer) : Type 0 where
  pub stored : Stored a
  pub size : length a.message ≡ kind.bytes

module _ (kind : Kind) (room : Room kind) where
  refused_kept : (n : ℕ) → n < 2 ^ 32 → Kept kind (refused_answer kind n)
  refused_kept n h =
      record {
        stored =
            record {
              number = h;
              message = zeros kind.bytes;
              cn0 = of_bits-fits binary32 0;
              index = omega arith;
              fraction = of_bits-fits binary32 0;
              undecided = omega arith;
            };
        size = length-replicate kind.bytes 0;
      }
    where
      zeros : (m : ℕ) → Bytes (replicate m 0)
      zeros zero k = omega arith
      zeros (suc m) zero = omega arith
      zeros (suc m) (suc k) = zeros m k

  -- a reading at a place that is searched
  reading_kept : (samples : List Float) (index : ℕ) (r : Location) → index ≤ 2 ^ 63 → Listed kind.last r.place
      → Kept kind (answer_of kind samples index (candidate (seen kind samples) r))
  unfolding answer_of candidate window_of bits_at timing_at
  reading_kept samples index r h l =
      let p = r.place in
      let bits = message_at (stream samples r.slicer p) kind.bytes p.bit in
      record {
        stored =
            record {
              number = omega arith;
              message = repaired_bytes bits r.repairs (message_bytes (stream samples r.slicer p) kind.bytes p.bit);
              cn0 = cn0_fits _ _;
              index = index_stored index (sample_start p) _ h (omega (arith, room.last));
              fraction = timing_fits _ _;
              undecided = omega (arith, undecided_few kind.bytes samples r.slicer p, few_bytes kind room);
            };
        size = length_repaired bits r.repairs ∙ message_length_law (stream samples r.slicer p) kind.bytes p.bit;
      }

module _ (kind : Kind) (room : Room kind) (samples : List Float) (s : Settings) (index : ℕ) where
  found_kept : (c : Candidate) → index ≤ 2 ^ 63 → best kind s (seen kind samples) ≡ some c → Kept kind (answer_of kind samples index c)
  unfolding best candidate_at
  found_kept c h e = go (scan_from (candidate_at kind s w) (places_of kind) none e)
    where
      w : Window
      w = seen kind samples

      go : (none ≡ some c) ⊎ ((p : Place) × (p ∈ places_of kind) × (candidate_at kind s w p ≡ some c)) → Kept kind (answer_of kind samples index c)
      go (inl x) = not_some x
      go (inr (p, m, q)) =
          let v = survivor_is s w _ q in
          let at : v.of.place ≡ p = ((sound kind _ p _ _).so v.of v.read).place in
          subst (λ (x : Candidate). Kept kind (answer_of kind samples index x)) v.is
          (reading_kept kind room samples index v.of h (subst (Listed kind.last) (sym at) (listed_gives kind.last p (member_listed kind.last p m))))

  pub decode_kept : Kept kind (decode_of kind samples s index)
  unfolding decode_of
  decode_kept = go (eqb (refusal_of samples s index) 0) refl (best kind s (seen kind samples)) refl
    where
      go : (b : Bool) → eqb (refusal_of samples s index) 0 ≡ b → (o : Option Candidate) → best kind s (seen kind samples) ≡ o
          → Kept kind (cond b (answered kind samples index o) (refused_answer kind (refusal_of samples s index)))
      go false e o q = refused_kept kind room _ (omega (arith, (refusal samples s index).0))
      go true e none q = refused_kept kind room 1 (omega arith)
      go true e (some c) q =
          found_kept c (index_right index (or_zero (settings_number s) _ (or_zero (window_number samples) _ (eqb-true _ 0 e)))) q

  best_taken : (c : Candidate) → best kind s (seen kind samples) ≡ some c → location_number kind.bytes c.location ≡ 0
  best_taken c e =
      let (p, m, t) = best_sited kind room.made s (seen kind samples) e in
      let l = listed_gives kind.last p m in
      sited_taken kind p c.location t (record { phase = l.phase; symbol = l.symbol; start = omega (arith, l.to, l.symbol, room.last) })

  pub decode_taken : (decode_of kind samples s index).number ≡ 0 → location_number kind.bytes (decode_of kind samples s index).location ≡ 0
  unfolding decode_of answer_of
  decode_taken = go (eqb (refusal_of samples s index) 0) refl (best kind s (seen kind samples)) refl
    where
      it : Bool → Option Candidate → Answer
      it b o = cond b (answered kind samples index o) (refused_answer kind (refusal_of samples s index))

      go : (b : Bool) → eqb (refusal_of samples s index) 0 ≡ b → (o : Option Candidate) → best kind s (seen kind samples) ≡ o
          → (it b o).number ≡ 0 → location_number kind.bytes (it b o).location ≡ 0
      go false e o q z = absurd (eqb-false _ 0 e z)
      go true e none q z = absurd (omega arith)
      go true e (some c) q z = best_taken c q

  pub decode_own : said_number kind.bytes (decode_of kind samples s index) ≡ (decode_of kind samples s index).number
  decode_own = said_own kind.bytes (decode_of kind samples s index) decode_taken

-- ---- the two answers of a window

-- the number of a short answer of which nothing is said, behind a long one with the number n
abbrev pub unsaid : ℕ → ℕ
unsaid zero = 1
unsaid (suc zero) = 1
unsaid (suc (suc n)) = suc (suc n)

-- of a long answer with the number m and a short one with n: the long one alone is said, or the short one alone, or both
abbrev pub Said : ℕ → ℕ → Type 0
Said m n = (n ≡ unsaid m) ⊎ (((m ≡ 1) × (n ≡ 0)) ⊎ ((m ≡ 0) × (n ≡ 0)))

pub decodes_said : (samples : List Float) (s : Settings) (index : ℕ) → Said (decode_of long samples s index).number (decode_of short samples s index).number
unfolding decode_of answer_of
decodes_said samples s index =
    go (eqb (refusal_of samples s index) 0) refl (best long s (seen long samples)) (best short s (seen short samples))
  where
    above : (n : ℕ) → n ≢ 0 → n ≢ 1 → n ≡ unsaid n
    above zero p q = absurd (p refl)
    above (suc zero) p q = absurd (q refl)
    above (suc (suc n)) p q = refl

    go : (b : Bool) → eqb (refusal_of samples s index) 0 ≡ b → (o i : Option Candidate)
        → Said (cond b (answered long samples index o) (refused_answer long (refusal_of samples s index))).number (cond b (answered short samples index i) (refused_answer short (refusal_of samples s index))).number
    go false e o i = inl (above _ (eqb-false _ 0 e) (refusal samples s index).1)
    go true e none none = inl refl
    go true e (some c) none = inl refl
    go true e none (some d) = inr (inl (refl, refl))
    go true e (some c) (some d) = inr (inr (refl, refl))
