-- Room for 14 bytes: what a body for both kinds answers, as those who ask for one kind have it.
--     unpadded                       the bytes of a message in the room that it has
--     room_long, room_short          a message of either kind in its room
--     shown, shown_length            the bytes of it that count
--     held_long, answer_long         a long message fills it
--     held_short, answer_short       of a short one the first seven bytes are taken
-- Assumes nothing.
use Rattle.std.specs.Prelude as code
use mathlib.Core.Path.{◌≡◌, refl, sym, ap, ◌∙◌, subst}
use mathlib.Core.List.{List, ◌++◌, append-nil}
use mathlib.Core.Option.{Option, none, some}
use Prim.Native.Nat.{ℕ, ◌-◌}
use lib.ListN.{length, take, replicate}
use lib.Seq.{take_at}
use lib.Ieee.{Float}
use Rattle.annex10.specs.Repair.{repaired}
use Rattle.annex10.specs.declared.Repairs.{Repairs}
use Rattle.annex10.proofs.Repairing.{length_repaired}
use Rattle.annex10.specs.declared.MessageKind.{MessageKind}
use Rattle.annex10.specs.declared.MessageKind.TheVariants.{Short, Long}
use Rattle.streams.specs.Streams.{message_at}
use Rattle.streams.proofs.Reading.{message_length_law}
use Rattle.kernels.specs.Symbols.{symbols_of}
use Rattle.search.specs.declared.Candidate.{Candidate}
use Rattle.search.specs.Kinds.{Kind, long, short}
use Rattle.search.specs.Answers.{survivor_of, refused_answer, answer_of, answered}
use Rattle.search.specs.Short.{short_survivor}
use Rattle.search.specs.Told.{survivor_told, short_survivor_told}
use Rattle.receiver.specs.Inner.{kind_of, padded, wide, held_of, cut_held, cut_answer, arrival_in, answer_in}
use Rattle.receiver.proofs.Prompting.{timing_seen}

pub unpadded : (k : Kind) (m : List ℕ) → length m ≡ k.bytes → take k.bytes (padded k m) ≡ m
unfolding padded
unpadded k m e = take_at m (replicate (14 - k.bytes) 0) k.bytes e

padded_long : (m : List ℕ) → padded long m ≡ m
unfolding padded long
padded_long m = append-nil m

cut_padded : (m : List ℕ) → length m ≡ short.bytes → take 7 (padded short m) ≡ m
unfolding short
cut_padded m e = unpadded short m e

-- a message of either kind in its room, as it is made for each
module _ (kind : MessageKind) (s : List ℕ) (bit : ℕ) (ρ : Repairs) {x : List ℕ} where
  pub room_long : kind ≡ Long → x ≡ repaired (message_at s 14 bit) ρ → x ≡ padded (kind_of kind) (repaired (message_at s (kind_of kind).bytes bit) ρ)
  unfolding long
  room_long q e =
      subst (λ (k : MessageKind). x ≡ padded (kind_of k) (repaired (message_at s (kind_of k).bytes bit) ρ)) (sym q) (e ∙ sym (padded_long (repaired (message_at s 14 bit) ρ)))

  pub room_short : kind ≡ Short → x ≡ repaired (message_at s 7 bit) ρ ++ replicate 7 0
      → x ≡ padded (kind_of kind) (repaired (message_at s (kind_of kind).bytes bit) ρ)
  unfolding short padded
  room_short q e = subst (λ (k : MessageKind). x ≡ padded (kind_of k) (repaired (message_at s (kind_of k).bytes bit) ρ)) (sym q) e

-- the bytes of it that count
module _ (k : Kind) (s : List ℕ) (bit : ℕ) (ρ : Repairs) {b : ℕ} {x : List ℕ} (w : b ≡ k.bytes) (e : x ≡ padded k (repaired (message_at s k.bytes bit) ρ)) where
  made_length : length (repaired (message_at s k.bytes bit) ρ) ≡ k.bytes
  made_length = length_repaired (message_at s k.bytes bit) ρ ∙ message_length_law s k.bytes bit

  pub shown : take b x ≡ repaired (message_at s k.bytes bit) ρ
  shown = rw (w, e) (unpadded k (repaired (message_at s k.bytes bit) ρ) made_length)

  pub shown_length : length (take b x) ≡ k.bytes
  shown_length = ap length shown ∙ made_length

-- the messages of what is found are as long as their kind has them
pub record Fit (k : Kind) (o : Option Candidate) : Type 0 where
  pub size : (c : Candidate) → o ≡ some c → length c.message ≡ k.bytes

-- ---- what is found

pub held_long : (o : Option Candidate) {x : code.Option Candidate} → x ≡ held_of long o → survivor_told (code.Ok x) ≡ survivor_of long o
held_long none e = rw e
held_long (some c) e = rw (e, padded_long c.message)

pub held_short : (o : Option Candidate) {x : code.Option Candidate} → Fit short o → x ≡ held_of short o → short_survivor_told (code.Ok (cut_held x)) ≡ short_survivor (survivor_of short o)
held_short none w e = rw e
held_short (some c) w e = rw (e, cut_padded c.message (w.size c refl))

-- refusals
pub refused_short : (n : ℕ) → cut_answer (refused_answer long n) ≡ refused_answer short n
unfolding long short
refused_short n = refl

-- ---- the answer

-- with its time, and the message in its room
timed : (k : Kind) (samples : List Float) (index : ℕ) (c : Candidate) → length c.message ≡ k.bytes
    → answer_in k (symbols_of samples) index (code.Some (wide k c))
    ≡ (let a = answer_of k samples index c in record { number = 0; location = a.location; message = padded k c.message; cn0 = a.cn0; index = a.index; fraction = a.fraction; undecided = a.undecided })
unfolding answer_in answer_of arrival_in
timed k samples index c e = rw (unpadded k c.message e, timing_seen k samples c.message c.location)

pub answer_long : (samples : List Float) (index : ℕ) (o : Option Candidate) {x : code.Option Candidate} → Fit long o → x ≡ held_of long o
    → answer_in long (symbols_of samples) index x ≡ answered long samples index o
unfolding answer_in answer_of
answer_long samples index none w e = rw e
answer_long samples index (some c) w e =
    ap (answer_in long (symbols_of samples) index) e ∙ timed long samples index c (w.size c refl) ∙ rw (padded_long c.message)

pub answer_short : (samples : List Float) (index : ℕ) (o : Option Candidate) {x : code.Option Candidate} → Fit short o → x ≡ held_of short o
    → cut_answer (answer_in short (symbols_of samples) index x) ≡ answered short samples index o
unfolding answer_in answer_of
answer_short samples index none w e = rw e (refused_short 1)
answer_short samples index (some c) w e =
    ap (λ (y : code.Option Candidate). cut_answer (answer_in short (symbols_of samples) index y)) e
    ∙ ap cut_answer (timed short samples index c (w.size c refl)) ∙ rw (cut_padded c.message (w.size c refl))
