-- The refusals and the answer, as the code puts them together.
--     -taken            what a number 0 says
--     read_none         nothing was found
--     best_fit, place_fit                 the length of the message that was found
--     weighed_there, answer_none, answer_timed   what was found, with its time
--     -refused, -done   the answers
--     answer_asks, decoded_long, decoded_short   the decode, from what was found and the sums of the window
-- Assumes nothing.
use Rattle.std.specs.Prelude as code
use mathlib.Core.Path.{◌≡◌, refl, sym, ap, ◌∙◌, subst}
use mathlib.Core.Bool.{Bool, true, false, false≢true, ◌&&◌, cond}
use mathlib.Core.List.{List}
use mathlib.Core.Logic.{◌≢◌}
use mathlib.Core.Option.{Option, none, some}
use Prim.Native.Nat.{ℕ, ◌^◌, ◌≤◌}
use native.Mathlib.Omega.{arith}
use borrow.Author.Tests.{eqb-true, eqb-false, leb-true, ne_eqb}
use lib.Dec.{eqb, leb}
use lib.ListN.{length, take}
use lib.Ieee.{Float}
use Rattle.place.specs.declared.Place.{Place}
use Rattle.place.specs.declared.location.Location.{Location}
use Rattle.place.specs.Step.{sample_start}
use Rattle.place.specs.All.{listed}
use Rattle.timing.specs.declared.Timing.{Timing}
use Rattle.timing.specs.Subsample.{fraction_of}
use Rattle.timing.specs.Inner.{moves_count}
use Rattle.timing.proofs.Laws.{few_moves}
use Rattle.lists.proofs.Table.{length_tabulate}
use Rattle.kernels.specs.Symbols.{symbols_of, sums_of, symbol_in, symbols_in, set_out}
use Rattle.kernels.proofs.Summing.{set_done, sums_length, symbols_in_law}
use Rattle.search.specs.declared.Settings.{Settings}
use Rattle.search.specs.declared.Candidate.{Candidate}
use Rattle.search.specs.declared.Arrival.{Arrival}
use Rattle.search.specs.declared.Answer.{Answer}
use Rattle.search.specs.declared.ShortAnswer.{ShortAnswer}
use Rattle.search.specs.declared.BothAnswers.{BothAnswers}
use Rattle.search.specs.Choice.{candidate_at, best}
use Rattle.search.specs.Window.{Window}
use Rattle.search.specs.Kinds.{Kind, long, short}
use Rattle.search.specs.Seen.{row, prompt_at, window_of, seen}
use Rattle.search.specs.When.{prompt_of, about, timing_at, index_of}
use Rattle.search.specs.Answers.{Survivor, or_number, window_number, settings_number, index_number, place_number, searched_number, no_candidate, refused_answer, survivor_of, survivor_or, read_at, best_of, arrival_at, answered, decode_of}
use Rattle.search.specs.Short.{short_candidate, short_survivor}
use Rattle.search.proofs.Locating.{sited_taken, best_sited}
use Rattle.rows.proofs.Sizes.{filled, best_filled}
use Rattle.lists.specs.Told.{done, refused}
use Rattle.refusals.specs.declared.Refusal.{Refusal}
use Rattle.refusals.specs.declared.Refusal.TheVariants as refusal
use Rattle.refusals.specs.declared.Refusal.TheVariants.{Input, Output, Level, Threshold, Index, Position, HalfWidth, Malformed}
use Rattle.refusals.specs.Refusals.{number}
use Rattle.lists.proofs.Telling.{told_refused, told_done}
use Rattle.receiver.specs.Inner.{wide, held_of, Searched, power_in, seen_in, arrival_in, Weighed, cut_answer, answer_in}
use Rattle.receiver.proofs.EitherKind.{Right, within_listed}
use Rattle.receiver.proofs.Prompting.{timing_seen}
use Rattle.receiver.proofs.Widening.{Fit, unpadded, answer_long, answer_short}

-- ---- what a number 0 says

pub or_zero : (n m : ℕ) → or_number n m ≡ 0 → (n ≡ 0) × (m ≡ 0)
or_zero n m = go (eqb n 0) refl
  where
    go : (b : Bool) → eqb n 0 ≡ b → cond b m n ≡ 0 → (n ≡ 0) × (m ≡ 0)
    go true q e = (eqb-true n 0 q, e)
    go false q e = absurd (eqb-false n 0 q e)

pub window_taken : (samples : List Float) → window_number samples ≡ 0 → length samples ≡ 2310
unfolding window_number
window_taken samples = go (eqb (length samples) 2310) refl
  where
    go : (b : Bool) → eqb (length samples) 2310 ≡ b → ◌≡◌ {A = ℕ} (cond b 0 2) 0 → length samples ≡ 2310
    go true q e = eqb-true _ _ q
    go false q e = absurd (omega arith)

pub index_taken : (index : ℕ) → index_number index ≡ 0 → (128 ≤ index) × (index ≤ 2 ^ 63)
unfolding index_number
index_taken index = go (leb 128 index) (leb index (2 ^ 63)) refl refl
  where
    go : (a b : Bool) → leb 128 index ≡ a → leb index (2 ^ 63) ≡ b → ◌≡◌ {A = ℕ} (cond (a && b) 0 6) 0 → (128 ≤ index) × (index ≤ 2 ^ 63)
    go true true p q e = (leb-true _ _ p, leb-true _ _ q)
    go true false p q e = absurd (omega arith)
    go false b p q e = absurd (omega arith)

pub place_taken : (k : Kind) (p : Place) → place_number k p ≡ 0 → listed k.last p ≡ true
unfolding place_number
place_taken k p = go (listed k.last p)
  where
    go : (b : Bool) → ◌≡◌ {A = ℕ} (cond b 0 7) 0 → b ≡ true
    go true e = refl
    go false e = absurd (omega arith)

pub record Taken (samples : List Float) (s : Settings) : Type 0 where
  pub whole : length samples ≡ 2310
  pub settings : settings_number s ≡ 0

module _ (k : Kind) (samples : List Float) where
  pub best_taken : (s : Settings) → 0 ≡ or_number (window_number samples) (settings_number s) → Taken samples s
  best_taken s e =
      let (a, b) = or_zero _ _ (sym e) in
      record { whole = window_taken samples a; settings = b }

  pub read_taken : (s : Settings) (p : Place) → 0 ≡ or_number (window_number samples) (or_number (settings_number s) (place_number k p))
      → Taken samples s × (listed k.last p ≡ true)
  read_taken s p e =
      let (a, b) = or_zero _ _ (sym e) in
      let (c, d) = or_zero _ _ b in
      (record { whole = window_taken samples a; settings = c }, place_taken k p d)

  pub decode_taken : (s : Settings) (index : ℕ) → 0 ≡ or_number (window_number samples) (or_number (settings_number s) (index_number index))
      → Taken samples s × (128 ≤ index) × (index ≤ 2 ^ 63)
  decode_taken s index e =
      let (a, b) = or_zero _ _ (sym e) in
      let (c, d) = or_zero _ _ b in
      let (l, h) = index_taken index d in
      (record { whole = window_taken samples a; settings = c }, l, h)

  pub time_taken : (l : Location) (index : ℕ) → 0 ≡ or_number (window_number samples) (or_number (index_number index) (searched_number k l))
      → (length samples ≡ 2310) × Searched k l × (128 ≤ index) × (index ≤ 2 ^ 63)
  time_taken l index e =
      let (a, b) = or_zero _ _ (sym e) in
      let (c, d) = or_zero _ _ b in
      let (f, g) = or_zero _ _ d in
      let (i, h) = index_taken index c in
      (window_taken samples a, record { place = place_taken k l.place f; taken = g }, i, h)

-- ---- what a search found

pub read_none : (k : Kind) (o : Option Candidate) {x : code.Option Candidate} → x ≡ held_of k o → code.is_some x ≡ false → o ≡ none
read_none k none e z = refl
read_none k (some c) e z = absurd (false≢true (sym z ∙ ap code.is_some e))

best_searched : (k : Kind) → Right k → (s : Settings) (w : Window) {a : Candidate} → best k s w ≡ some a → Searched k a.location
best_searched k r s w {a} e =
    let (p, h, t) = best_sited k r.makes s w e in
    record { place = subst (λ (q : Place). listed k.last q ≡ true) (sym t.place) h; taken = sited_taken k p a.location t (within_listed k r p h) }

nothing_there : {x : code.Option Candidate} {c : Candidate} → x ≡ code.None → x ≡ code.Some c → ⊥
nothing_there e z = cc

found_there : (k : Kind) → Right k → (s : Settings) (samples : List Float) (o : Option Candidate) {x : code.Option Candidate} → best k s (seen k samples) ≡ o → x ≡ held_of k o
    → Weighed k (symbols_of samples) x
unfolding window_of prompt_at power_in row
found_there k r s samples none b e = record { at = λ c z. absurd (nothing_there e z); power = λ c z. absurd (nothing_there e z) }
found_there k r s samples (some c) b e =
    let f = best_filled k s samples b in
    subst (Weighed k (symbols_of samples)) (sym e)
    (record {
      at = λ a z. let q : wide k c ≡ a = cc in subst (λ (y : Candidate). Searched k y.location) q (best_searched k r s (seen k samples) b);
      power = λ a z.
          let q : wide k c ≡ a = cc in
          subst (λ (y : Candidate). y.prompt ≡ power_in k (symbols_of samples) y.location.place (take k.bytes y.message)) q
          (f.power ∙ ap (power_in k (symbols_of samples) c.location.place) (sym (unpadded k c.message f.size)));
    })

-- a message of its kind
pub best_fit : (k : Kind) (s : Settings) (samples : List Float) → Fit k (best k s (seen k samples))
best_fit k s samples = record { size = λ c e. (best_filled k s samples e).size }

pub place_fit : (k : Kind) (s : Settings) (samples : List Float) (p : Place) → Fit k (candidate_at k s (seen k samples) p)
place_fit k s samples p = record { size = λ c e. (filled k s samples p e).size }

-- what is found lies at one of the places, and has its power there
best_weighed : (k : Kind) → Right k → (s : Settings) (samples symbols : List Float) {x : code.Option Candidate} → x ≡ held_of k (best k s (seen k samples)) → symbols ≡ symbols_of samples
    → Weighed k symbols x
best_weighed k r s samples symbols e q = rw q (found_there k r s samples (best k s (seen k samples)) refl e)

-- ---- timing

pub moves_few : (w : Window) (message : List ℕ) (l : Location) {t : Timing} → t ≡ timing_at w message l → moves_count t.moves ≤ 2
unfolding timing_at
moves_few w message l e = rw e (few_moves (fraction_of (about w message (prompt_of w message l)) (prompt_of w message l).offset))

pub timed_is : (k : Kind) (symbols : List Float) (l : Location) (message : List ℕ) (index : ℕ) {t : Timing} {i : ℕ} → t ≡ timing_at (seen_in k symbols) message l
    → i ≡ index_of index (sample_start l.place) t.moves → record { index = i; fraction = t.fraction } ≡ arrival_in k symbols l message index
unfolding arrival_in
timed_is k symbols l message index et ei = rw (ei, et)

-- ---- what is found, with its time

pub symbols_set : (sums symbols : List Float) {r : ℕ} {now : List Float} → length sums ≡ 2304 → length symbols ≡ 2304 → (r, now) ≡ set_out sums symbols
    → now ≡ symbols_in sums
symbols_set sums symbols a b e = ap (λ (p : ℕ × List Float). p.1) (e ∙ set_done sums symbols a b)

pub set_length : (sums : List Float) → length (symbols_in sums) ≡ 2304
unfolding symbols_in
set_length sums = length_tabulate 2304 (symbol_in sums)

module _ (k : Kind) (sums : List Float) {x : code.Option Candidate} where
  pub weighed_there : (c : Candidate) {b : ℕ} {symbols : List Float} → Weighed k (symbols_in sums) x → x ≡ code.Some c → b ≡ k.bytes → symbols ≡ symbols_in sums
      → c.prompt ≡ power_in k symbols c.location.place (take b c.message)
  weighed_there c w z e m = rw (m, e) (w.power c z)

  pub answer_none : (index : ℕ) {r : Answer} → x ≡ code.None → r ≡ refused_answer long 1 → r ≡ answer_in k (symbols_in sums) index x
  unfolding answer_in
  answer_none index h e = rw h e

  pub answer_timed : (c : Candidate) (index : ℕ) {b : ℕ} {symbols : List Float} {t : Arrival} → x ≡ code.Some c → b ≡ k.bytes → symbols ≡ symbols_in sums
      → t ≡ arrival_in k symbols c.location (take b c.message) index
      → record { number = 0; location = c.location; message = c.message; cn0 = c.cn0; index = t.index; fraction = t.fraction; undecided = c.undecided }
      ≡ answer_in k (symbols_in sums) index x
  unfolding answer_in
  answer_timed c index z e m et = rw (z, et, e, m)

-- ---- the answers

-- a refusal has a number
pub some_number : (e : Refusal) → number e ≢ 0
some_number Input z = absurd (omega arith)
some_number Output z = absurd (omega arith)
some_number Level z = absurd (omega arith)
some_number Threshold z = absurd (omega arith)
some_number Index z = absurd (omega arith)
some_number refusal.Place z = absurd (omega arith)
some_number Position z = absurd (omega arith)
some_number HalfWidth z = absurd (omega arith)
some_number Malformed z = absurd (omega arith)

module _ (k : Kind) (samples : List Float) where
  pub read_refused : (s : Settings) (p : Place) (e : Refusal) → number e ≡ or_number (window_number samples) (or_number (settings_number s) (place_number k p))
      → record { number = number e; candidate = no_candidate k } ≡ read_at k samples s p
  unfolding read_at survivor_or
  read_refused s p e q = rw (← q, ne_eqb (number e) 0 (some_number e))

  pub read_done : (s : Settings) (p : Place) {x : Survivor} → 0 ≡ or_number (window_number samples) (or_number (settings_number s) (place_number k p))
      → x ≡ survivor_of k (candidate_at k s (seen k samples) p) → x ≡ read_at k samples s p
  unfolding read_at survivor_or
  read_done s p q ex = rw (← q) ex

  pub best_refused : (s : Settings) (e : Refusal) → number e ≡ or_number (window_number samples) (settings_number s)
      → record { number = number e; candidate = no_candidate k } ≡ best_of k samples s
  unfolding best_of survivor_or
  best_refused s e q = rw (← q, ne_eqb (number e) 0 (some_number e))

  pub best_done : (s : Settings) {x : Survivor} → 0 ≡ or_number (window_number samples) (settings_number s)
      → x ≡ survivor_of k (best k s (seen k samples)) → x ≡ best_of k samples s
  unfolding best_of survivor_or
  best_done s q ex = rw (← q) ex

  pub time_refused : (l : Location) (message : List ℕ) (index : ℕ) (e : Refusal)
      → number e ≡ or_number (window_number samples) (or_number (index_number index) (searched_number k l)) → refused (number e) ≡ arrival_at k samples l message index
  unfolding arrival_at
  time_refused l message index e q = told_refused _ q (some_number e)

  pub time_done : (l : Location) (message : List ℕ) (index : ℕ) {symbols : List Float} {x : Arrival}
      → 0 ≡ or_number (window_number samples) (or_number (index_number index) (searched_number k l))
      → symbols ≡ symbols_of samples → x ≡ arrival_in k symbols l message index → done x ≡ arrival_at k samples l message index
  unfolding arrival_at arrival_in
  time_done l message index q m ex = ap done (ex ∙ rw (m, timing_seen k samples message l)) ∙ told_done _ q refl

  pub decode_refused : (s : Settings) (index : ℕ) (e : Refusal) {x : Answer} → number e ≡ or_number (window_number samples) (or_number (settings_number s) (index_number index))
      → x ≡ refused_answer k (number e) → x ≡ decode_of k samples s index
  unfolding decode_of
  decode_refused s index e q ex = rw (← q, ne_eqb (number e) 0 (some_number e)) ex

  decode_done : (s : Settings) (index : ℕ) {x : Answer} → 0 ≡ or_number (window_number samples) (or_number (settings_number s) (index_number index))
      → x ≡ answered k samples index (best k s (seen k samples)) → x ≡ decode_of k samples s index
  unfolding decode_of
  decode_done s index q ex = rw (← q) ex

-- of short messages
pub short_read_refused : (samples : List Float) (s : Settings) (p : Place) (e : Refusal)
    → number e ≡ or_number (window_number samples) (or_number (settings_number s) (place_number short p))
    → record { number = number e; candidate = short_candidate (no_candidate short) } ≡ short_survivor (read_at short samples s p)
short_read_refused samples s p e q = ap short_survivor (read_refused short samples s p e q)

pub short_best_refused : (samples : List Float) (s : Settings) (e : Refusal) → number e ≡ or_number (window_number samples) (settings_number s)
    → record { number = number e; candidate = short_candidate (no_candidate short) } ≡ short_survivor (best_of short samples s)
short_best_refused samples s e q = ap short_survivor (best_refused short samples s e q)

-- the two answers of both searches
pub both_are : {l m : Answer} {x y : ShortAnswer} → l ≡ m → x ≡ y → ◌≡◌ {A = BothAnswers} (record { long = l; short = x }) (record { long = m; short = y })
both_are e f = rw (e, f)

-- from what is found, with the sums of the window
module _ (samples : List Float) (s : Settings) (index : ℕ) {sums : List Float}
    (e : 0 ≡ or_number (window_number samples) (or_number (settings_number s) (index_number index))) (q : sums ≡ sums_of samples) where
  window_symbols : symbols_in sums ≡ symbols_of samples
  window_symbols = ap symbols_in q ∙ symbols_in_law samples

  pub answer_asks : (k : Kind) → Right k → {x : code.Option Candidate} → x ≡ held_of k (best k s (seen k samples))
      → (length sums ≡ 2304) × (128 ≤ index) × (index ≤ 2 ^ 63) × Weighed k (symbols_in sums) x
  answer_asks k r ex =
      let t = decode_taken k samples s index e in
      (ap length q ∙ sums_length samples, t.1, t.2, best_weighed k r s samples (symbols_in sums) ex window_symbols)

  pub decoded_long : {x : code.Option Candidate} {r : Answer} → x ≡ held_of long (best long s (seen long samples)) → r ≡ answer_in long (symbols_in sums) index x
      → r ≡ decode_of long samples s index
  decoded_long {x} ex er =
      decode_done long samples s index e
      (er ∙ ap (λ (y : List Float). answer_in long y index x) window_symbols ∙ answer_long samples index (best long s (seen long samples)) (best_fit long s samples) ex)

  pub decoded_short : {x : code.Option Candidate} {r : Answer} → x ≡ held_of short (best short s (seen short samples)) → r ≡ answer_in short (symbols_in sums) index x
      → cut_answer r ≡ decode_of short samples s index
  decoded_short {x} ex er =
      decode_done short samples s index e
      (ap cut_answer (er ∙ ap (λ (y : List Float). answer_in short y index x) window_symbols) ∙ answer_short samples index (best short s (seen short samples)) (best_fit short s samples) ex)
