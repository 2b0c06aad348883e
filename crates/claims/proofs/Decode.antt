-- WHAT IS CLAIMED OF A DECODE HOLDS of `decode_of`, for all samples, settings and indices.
-- Assumes nothing.
use mathlib.Core.Path.{◌≡◌, refl, sym, ap, ◌∙◌, subst}
use mathlib.Core.Bool.{Bool, true, false, not, ◌&&◌}
use mathlib.Core.List.{List}
use mathlib.Core.Logic.{◌⊎◌, inl, inr, ◌↔◌, ◌≢◌}
use mathlib.Core.Option.{some}
use Prim.Native.Nat.{ℕ, ◌*◌, ◌≤◌, ◌<◌}
use native.Mathlib.Decide.{ℕ_discrete}
use native.Mathlib.Omega.{arith}
use lib.Ieee.{Float}
use Rattle.lists.specs.Bits.{as_bit, bit_at, how_many}
use Rattle.lists.proofs.Bits.{how_many_none}
use Rattle.annex10.specs.Repair.{count, Named, Proper, repaired}
use Rattle.annex10.specs.declared.Repairs.{Repairs}
use Rattle.annex10.proofs.Repairing.{changed}
use Rattle.math.specs.declared.Complex.{Complex}
use Rattle.place.specs.declared.Place.{Place}
use Rattle.place.specs.declared.Slicer.{Slicer}
use Rattle.place.specs.declared.location.Location.{Location}
use Rattle.place.proofs.Within.{listed_gives}
use Rattle.slicing.specs.Slices.{greater_by, undecided}
use Rattle.search.specs.declared.Settings.{Settings}
use Rattle.search.specs.declared.Candidate.{Candidate}
use Rattle.search.specs.declared.Answer.{Answer}
use Rattle.search.specs.Kinds.{Kind, places_of, long, short}
use Rattle.search.specs.Window.{◌∈◌}
use Rattle.search.specs.Choice.{best}
use Rattle.search.specs.Seen.{bits_at, window_of, seen}
use Rattle.search.specs.Answers.{answer_of, refused_answer, decode_of}
use Rattle.claims.specs.Bits.{first_half, second_half, slicer_bit, coin_toss}
use Rattle.claims.specs.Fits.{Fits}
use Rattle.claims.specs.Calls.{Accepted}
use Rattle.claims.specs.Audited.{Received, Returned, Zeros, Answered, Audited}
use Rattle.claims.proofs.Fitting.{first_lowest, not_silent}
use Rattle.claims.proofs.Uses.{Sound, places_of_law, sized, search_of_law, heard_of, sound_long, sound_short}
use Rattle.claims.proofs.Calls.{wrong_length, wrong_level, wrong_thresholds, wrong_index, nothing, something, ends, numbered}
use Rattle.claims.proofs.Timing.{timed}
use Rattle.claims.proofs.Only.{one_answer}

-- ---- the answer with number 0

-- two numbers that are not unlike are the same
like : (x y : ℕ) → ¬ (x ≢ y) → x ≡ y
like x y h = elim (ℕ_discrete x y) [
  | yes e ↦ e
  | no n ↦ absurd (h n)
]

-- a bit that was no coin toss: one half is strictly greater, and the bit says which
heard_well : (slicer : Slicer) (a b : Complex) {m : ℕ} → m ≡ as_bit (greater_by slicer a b) → as_bit (undecided slicer a b) ≡ 0
    → ((m ≡ 1) × (greater_by slicer a b ≡ true)) ⊎ ((m ≡ 0) × (greater_by slicer b a ≡ true))
heard_well slicer a b {m} = go (greater_by slicer a b) (greater_by slicer b a)
  where
    go : (s t : Bool) → m ≡ as_bit s → as_bit (not s && not t) ≡ 0 → ((m ≡ 1) × (s ≡ true)) ⊎ ((m ≡ 0) × (t ≡ true))
    go true t e z = inl (e, refl)
    go false true e z = inr (e, refl)
    go false false e z = absurd (omega arith)

abbrev IsReturned : Kind → List Float → Settings → ℕ → Answer → Type 0
IsReturned kind samples s index a = Returned kind samples s index a a.location

-- the search found c
module _ (kind : Kind) (sound : Sound kind) (samples : List Float) (s : Settings) (index : ℕ) (c : Candidate) (b : best kind s (seen kind samples) ≡ some c) where
  -- its location
  abbrev here : Location
  here = c.location

  made : c.message ≡ repaired (bits_at kind.bytes samples here.slicer here.place) here.repairs
  unfolding window_of
  made = (((search_of_law kind sound samples s).returns c).0 b).1.message

  among : here.place ∈ places_of kind
  among = (((search_of_law kind sound samples s).returns c).0 b).0.held.0

  fitting : Fits kind s (seen kind samples) here.place here.slicer here.repairs
  fitting = (((search_of_law kind sound samples s).returns c).0 b).0.held.1.first.fits

  -- its bits, by the bits that were looked at and by the samples
  differs : (j : ℕ) → j < 8 * kind.bytes → (bit_at c.message j ≢ slicer_bit samples here.slicer here.place j) ↔ Named j here.repairs
  unfolding window_of
  differs j h =
      let bits = bits_at kind.bytes samples here.slicer here.place in
      let size = (sized kind samples).size here.slicer here.place in
      let proper = subst (λ (n : ℕ). Proper n here.repairs) (sym size) fitting.positions in
      rw (made, ← (heard_of kind sound samples).heard here.slicer here.place (((places_of_law kind).each here.place).0 among) j (omega arith))
      (changed bits here.repairs proper j)

  -- its coin tosses, by the marks that were counted and by the samples
  tossed : c.undecided ≡ how_many (coin_toss samples here.slicer here.place) (8 * kind.bytes)
  unfolding window_of
  tossed =
      (((search_of_law kind sound samples s).returns c).0 b).1.undecided
      ∙ (heard_of kind sound samples).counted here.slicer here.place (((places_of_law kind).each here.place).0 among)

  received : (j : ℕ) → j < 8 * kind.bytes → coin_toss samples here.slicer here.place j ≡ 0 → ¬ Named j here.repairs
      → Received samples here c.message j
  unfolding slicer_bit coin_toss
  received j h z n =
      heard_well here.slicer (first_half samples here.place j) (second_half samples here.place j)
      (like (bit_at c.message j) (slicer_bit samples here.slicer here.place j) (λ u. n ((differs j h).0 u))) z

  returned : IsReturned kind samples s index (answer_of kind samples index c)
  unfolding answer_of window_of
  returned =
      let q = search_of_law kind sound samples s in
      let (h, f) = (q.returns c).0 b in
      record {
        chosen = h;
        trial = f.trial;
        none_before = λ y σ g.
            let low = first_lowest kind s (seen kind samples) sound.apart (sized kind samples) here.place here.slicer here.repairs h.held.1.first y σ g in
            omega (arith, f.trial);
        message = made;
        cn0 = f.cn0;
        differs = differs;
        undecided = tossed;
        none_tossed = λ z. how_many_none (coin_toss samples here.slicer here.place) (8 * kind.bytes) (sym tossed ∙ z);
        received = received;
        only_repair = (q.reads_first here.place).only here.slicer here.repairs fitting;
        timed = timed kind samples index c (listed_gives kind.last here.place (((places_of_law kind).each here.place).0 among)).from;
      }

-- ---- every answer

no_message : (kind : Kind) (n : ℕ) → Zeros kind (refused_answer kind n)
no_message kind n = record { place = refl; trial = refl; slicer = refl; repairs = refl; message = refl; cn0 = refl; index = refl; fraction = refl; undecided = refl }

module _ (kind : Kind) (sound : Sound kind) (samples : List Float) (s : Settings) (index : ℕ) where
  abbrev it : Answer
  it = decode_of kind samples s index

  -- what is said beside the number
  record Beside : Type 0 where
    returned_is : it.number ≡ 0 → IsReturned kind samples s index it
    zeros : it.number ≢ 0 → Zeros kind it

  refused : (n : ℕ) → 0 < n → it ≡ refused_answer kind n → Beside
  refused n h e =
      let k : it.number ≡ n = ap (λ (a : Answer). a.number) e in
      record { returned_is = λ z. absurd (omega arith); zeros = λ z. subst (Zeros kind) (sym e) (no_message kind n) }

  found : (c : Candidate) → best kind s (seen kind samples) ≡ some c → it ≡ answer_of kind samples index c → Beside
  unfolding answer_of
  found c b e =
      let k : it.number ≡ 0 = ap (λ (x : Answer). x.number) e in
      record {
        returned_is = λ z. subst (IsReturned kind samples s index) (sym e) (returned kind sound samples s index c b);
        zeros = λ z. absurd (z k);
      }

  beside : Beside
  beside = elim (ends kind samples s index) [
    | wrong_length l e ↦ refused 2 (omega arith) e
    | wrong_level l v e ↦ refused 4 (omega arith) e
    | wrong_thresholds l v f e ↦ refused 5 (omega arith) e
    | wrong_index l v f i e ↦ refused 6 (omega arith) e
    | nothing a b e ↦ refused 1 (omega arith) e
    | something a c b e ↦ found c b e
  ]

  speaks : Accepted samples s index → (p : Place) → p ∈ places_of kind → (z : Slicer) (ρ : Repairs) → Fits kind s (seen kind samples) p z ρ → count ρ ≤ 1
      → (it.number ≡ 0) × (count it.location.repairs ≤ count ρ)
  speaks a p m z ρ f o =
      let (y, σ, h, l) = not_silent kind s (seen kind samples) sound.apart (sized kind samples) p z ρ f o in
      let n : it.number ≡ 0 = (numbered kind sound samples s index).zero.1 (a, (p, y, σ, (m, h))) in
      let k = (beside.returned_is n).chosen.fewest p y σ (m, h) in
      (n, omega arith)

  answered : Answered kind samples s index it
  answered = record { numbered = numbered kind sound samples s index; returned = beside.returned_is; zeros = beside.zeros; not_silent = speaks }

-- THE CLAIMS: where the contract `answer ≡ decode_of kind samples s index` holds, all of them do
audited_of : (kind : Kind) → Sound kind → Audited kind (decode_of kind)
audited_of kind sound =
    record {
      answered = answered kind sound;
      only = λ samples s index b h. one_answer kind sound samples s index b (decode_of kind samples s index) h (answered kind sound samples s index);
    }

pub audited : Audited long (decode_of long)
audited = audited_of long sound_long

pub audited_short : Audited short (decode_of short)
audited_short = audited_of short sound_short
