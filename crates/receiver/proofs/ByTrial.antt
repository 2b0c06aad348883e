-- Every place by trial.
--     code_tried       what a repair by trial answers, as a code
--     all_listing      the list of all places, with what clears them
--     all_searched     the search over it
-- Assumes nothing.
use Rattle.std.specs.Prelude as code
use Rattle.std.specs.Result.{result_unwrap_or}
use mathlib.Core.Path.{◌≡◌, refl, sym, ap, ◌∙◌}
use mathlib.Core.List.{List}
use mathlib.Core.Option.{Option, none}
use Prim.Native.Nat.{ℕ, zero, suc, ◌+◌, ◌-◌, ◌*◌, ◌/◌, ◌%◌, ◌<◌, ◌≤◌, min}
use native.Mathlib.Omega.{arith}
use lib.ListN.{length, get_or, take}
use lib.Seq.{take_all}
use lib.Ieee.{Float}
use Rattle.lists.specs.From.{from, tabulate}
use Rattle.refusals.specs.declared.Refusal.{Refusal}
use Rattle.refusals.specs.Refusals.{told}
use Rattle.lists.proofs.Table.{length_tabulate, get_d_tabulate}
use Rattle.annex10.specs.Remainder.{remainder}
use Rattle.annex10.specs.Any.{clearing_up_to}
use Rattle.annex10.specs.Codes.{code_of}
use Rattle.annex10.specs.Mend.{mended, repair_of}
use Rattle.annex10.specs.declared.Found.{Found}
use Rattle.annex10.specs.declared.Found.TheVariants.{Nothing}
use Rattle.annex10.proofs.Mending.{mended_is, repair_done}
use Rattle.place.specs.declared.Place.{Place}
use Rattle.place.specs.declared.Slicer.{Slicer}
use Rattle.place.specs.declared.Slicer.TheVariants.{Coherent, Noncoherent}
use Rattle.place.specs.Step.{sample_start}
use Rattle.place.specs.All.{place_at}
use Rattle.place.proofs.All.{listed_at}
use Rattle.place.proofs.Within.{listed_gives}
use Rattle.streams.specs.Streams.{message_at}
use Rattle.repairs.specs.Codes.{code_up_to}
use Rattle.search.specs.declared.Settings.{Settings}
use Rattle.search.specs.declared.Candidate.{Candidate}
use Rattle.search.specs.Choice.{better, scan, candidate_at, best}
use Rattle.search.specs.Kinds.{Kind}
use Rattle.search.specs.Seen.{seen}
use Rattle.scan.specs.Flat.{bits_from, crcs_in}
use Rattle.scan.specs.Lanes.{lane_bytes}
use Rattle.scan.specs.Sieve.{lane_of}
use Rattle.scan.proofs.Starting.{place_start, stream_lane}
use Rattle.receiver.specs.Inner.{held_of, Scanned, Listing, Finds, found_by, trial_code, over}
use Rattle.receiver.proofs.Never.{unwrapped}
use Rattle.receiver.proofs.EitherKind.{Right}
use Rattle.receiver.proofs.Finding.{crc_at_law, best_is}
use Rattle.receiver.proofs.Repaired.{code_finds}

-- ---- one message

module _ (n most level : ℕ) (m : List ℕ) (e : length m ≡ n) (l : level ≤ 2) where
  pub code_tried : (r : code.Result Found Refusal) {f : Found} {c : ℕ} → told r ≡ repair_of n most level m → f ≡ result_unwrap_or r Nothing → c ≡ code_of f
      → c ≡ code_up_to n (min level most) (remainder m)
  unfolding code_up_to
  code_tried r {f} q g h =
      let y : f ≡ mended (min level most) m = unwrapped r Nothing g (q ∙ sym (repair_done n most level m e l refl refl)) in
      h ∙ ap code_of (y ∙ mended_is (min level most) m ∙ ap (λ (x : ℕ). clearing_up_to x (min level most) (remainder m)) e)

-- ---- all places

module _ (k : Kind) (w : Right k) (samples : List Float) (coherent noncoherent crcs others : List ℕ)
    (z : Scanned k samples coherent noncoherent crcs others) (level : ℕ) where
  -- the remainder of the message that is tried
  tried_crc : (slicer : Slicer) (bits remainders : List ℕ) (q : ℕ) → q < 8 * k.last → bits ≡ bits_from slicer samples
      → remainders ≡ crcs_in k.bytes (bits_from slicer samples) (8 * k.last)
      → remainder (message_at (lane_bytes bits (4 * (place_at q).symbol + (place_at q).phase)) k.bytes (place_at q).bit) ≡ get_or remainders (lane_of q) 0
  tried_crc slicer bits remainders q h e g =
      let p = place_at q in
      let l = listed_at k.last q h in
      let i = listed_gives k.last p l in
      let at : sample_start p - 8 ≡ lane_of q = omega (arith, place_start q) in
      ap (λ (x : List ℕ). remainder (message_at x k.bytes p.bit))
      (ap (λ (x : List ℕ). lane_bytes x (4 * p.symbol + p.phase)) e ∙ stream_lane slicer samples p (omega (arith, i.phase)) (omega (arith, i.symbol)))
      ∙ sym (crc_at_law k w slicer samples p l) ∙ ap (λ (x : List ℕ). get_or x (sample_start p - 8) 0) (sym g) ∙ ap (λ (x : ℕ). get_or remainders x 0) at

  -- code 2 q is the coherent slicer's, code 2 q + 1 the other's
  first_code : (q : ℕ) → q < 8 * k.last → trial_code k level coherent noncoherent (2 * q) ≡ code_up_to k.bytes level (get_or crcs (lane_of q) 0)
  unfolding trial_code
  first_code q h =
      let a : 2 * q / 2 ≡ q = omega arith in
      let b : 2 * q % 2 ≡ 0 = omega arith in
      rw (a, b) (ap (code_up_to k.bytes level) (tried_crc Coherent coherent crcs q h z.first z.first_crcs))

  second_code : (q : ℕ) → q < 8 * k.last → trial_code k level coherent noncoherent (2 * q + 1) ≡ code_up_to k.bytes level (get_or others (lane_of q) 0)
  unfolding trial_code
  second_code q h =
      let a : (2 * q + 1) / 2 ≡ q = omega arith in
      let b : (2 * q + 1) % 2 ≡ 1 = omega arith in
      rw (a, b) (ap (code_up_to k.bytes level) (tried_crc Noncoherent noncoherent others q h z.second z.second_crcs))

  code_there : (crc i : ℕ) {codes : List ℕ} → i < 16 * k.last → codes ≡ tabulate (16 * k.last) (trial_code k level coherent noncoherent)
      → trial_code k level coherent noncoherent i ≡ code_up_to k.bytes level crc → Finds k level crc (found_by crc (get_or codes i 0))
  code_there crc i h e g =
      rw (ap (λ (x : List ℕ). get_or x i 0) e ∙ get_d_tabulate (16 * k.last) (trial_code k level coherent noncoherent) i 0 h ∙ g) (code_finds k w level crc)

  pub all_listing : {list codes : List ℕ} {n : ℕ} → list ≡ tabulate (8 * k.last) (λ (i : ℕ). i)
      → codes ≡ tabulate (16 * k.last) (trial_code k level coherent noncoherent) → n ≡ 8 * k.last → Listing k level crcs others list codes n
  all_listing {list} {codes} e g n =
      let at : (q : ℕ) → q < 8 * k.last → get_or list q 0 ≡ q = λ q h. ap (λ (x : List ℕ). get_or x q 0) e ∙ get_d_tabulate (8 * k.last) (λ (i : ℕ). i) q 0 h in
      rw n (record {
        few = omega arith;
        places = ap length e ∙ length_tabulate (8 * k.last) (λ (i : ℕ). i);
        many = ap length g ∙ length_tabulate (16 * k.last) (trial_code k level coherent noncoherent);
        low = λ q h. rw (at q h) h;
        first = λ q h. rw (at q h) (code_there (get_or crcs (lane_of q) 0) (2 * q) (omega arith) g (first_code q h));
        second = λ q h. rw (at q h) (code_there (get_or others (lane_of q) 0) (2 * q + 1) (omega arith) g (second_code q h));
      })

-- the places by their numbers are the places
over_all : (f : Place → Option Candidate) (n i : ℕ) (h : Option Candidate) → over f place_at h (from (λ (k : ℕ). k) i n) ≡ scan f h (from place_at i n)
unfolding over scan from
over_all f zero i h = refl
over_all f (suc n) i h = over_all f n (suc i) (better h (f (place_at i)))

pub all_searched : (k : Kind) (samples : List Float) (s : Settings) {list : List ℕ} {x : code.Option Candidate} {n : ℕ}
    → list ≡ tabulate (8 * k.last) (λ (i : ℕ). i) → n ≡ 8 * k.last
    → x ≡ held_of k (over (candidate_at k s (seen k samples)) place_at none (take n list)) → x ≡ held_of k (best k s (seen k samples))
unfolding tabulate
all_searched k samples s {list} {x} {n} e i g =
    let f = candidate_at k s (seen k samples) in
    let m = length_tabulate (8 * k.last) (λ (i : ℕ). i) in
    let whole : take n list ≡ from (λ (i : ℕ). i) 0 (8 * k.last) = take_all n list (omega (arith, ap length e, m, i)) ∙ e in
    g ∙ ap (held_of k) (ap (over f place_at none) whole ∙ over_all f (8 * k.last) 0 none ∙ best_is k s (seen k samples))
