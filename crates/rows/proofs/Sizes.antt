-- How long the rows of an answer and of a tray's result are.
--     filled, best_filled     what is found at a place: its message has the bytes of its kind, and its power is that of the place
--     decode_size             so has the message of an answer, found or refused
--     bytes_size, width_size  the fields of a tray's result
-- Assumes nothing.
use mathlib.Core.Path.{◌≡◌, refl, ap₂, ◌∙◌, subst}
use mathlib.Core.Bool.{Bool, true, false, cond}
use mathlib.Core.List.{List, [], ◌∷◌}
use mathlib.Core.Logic.{inl, inr}
use mathlib.Core.Option.{Option, none, some}
use Prim.Native.Nat.{ℕ, ◌+◌, ◌*◌}
use native.Mathlib.Nat.{add_comm, mul-zero, mul-suc}
use lib.Dec.{eqb}
use lib.ListN.{length, length-append, length-replicate}
use lib.Ieee.{Float}
use Rattle.annex10.proofs.Repairing.{length_repaired}
use Rattle.place.specs.declared.Place.{Place}
use Rattle.streams.proofs.Reading.{message_length_law}
use Rattle.search.specs.declared.Settings.{Settings}
use Rattle.search.specs.declared.Candidate.{Candidate}
use Rattle.search.specs.declared.Answer.{Answer}
use Rattle.search.specs.Choice.{candidate, candidate_at, best}
use Rattle.search.specs.Window.{Window}
use Rattle.search.specs.Kinds.{Kind, places_of}
use Rattle.search.specs.Seen.{bits_at, window_of, seen}
use Rattle.search.specs.Answers.{or_number, window_number, settings_number, index_number, refused_answer, answer_of, answered, decode_of}
use Rattle.search.proofs.Scanning.{scan_from, survivor_is, not_some}
use Rattle.rows.specs.Tray.{answers_of, fields_of, message_of, bytes_in}

-- what a candidate at a place is
pub record Filled (w : Window) (k : Kind) (a : Candidate) : Type 0 where
  pub size : length a.message ≡ k.bytes
  pub power : a.prompt ≡ w.prompt a.location.place a.message

module _ (k : Kind) (s : Settings) (samples : List Float) where
  pub filled : (p : Place) {a : Candidate} → candidate_at k s (seen k samples) p ≡ some a → Filled (seen k samples) k a
  unfolding candidate_at candidate window_of bits_at
  filled p e =
      let v = survivor_is s (seen k samples) _ e in
      subst (Filled (seen k samples) k) v.is
      (record { size = length_repaired _ _ ∙ message_length_law _ k.bytes v.of.place.bit; power = refl })

  pub best_filled : {a : Candidate} → best k s (seen k samples) ≡ some a → Filled (seen k samples) k a
  unfolding best
  best_filled e = elim (scan_from (candidate_at k s (seen k samples)) (places_of k) none e) [
    | inl q ↦ not_some q
    | inr q ↦ filled q.0 q.2
  ]

  pub decode_size : (index : ℕ) → length (decode_of k samples s index).message ≡ k.bytes
  unfolding decode_of answer_of
  decode_size index =
      go (eqb (or_number (window_number samples) (or_number (settings_number s) (index_number index))) 0) (best k s (seen k samples)) refl
    where
      go : (b : Bool) (o : Option Candidate) → best k s (seen k samples) ≡ o
          → length (cond b (answered k samples index o) (refused_answer k (or_number (window_number samples) (or_number (settings_number s) (index_number index))))).message ≡ k.bytes
      go true none e = length-replicate k.bytes 0
      go true (some c) e = (best_filled e).size
      go false o e = length-replicate k.bytes 0

-- ---- a tray's result

module _ (window : List Float) (s : Settings) (index : ℕ) where
  pub bytes_size : (kinds : List Kind) → length (fields_of message_of (answers_of kinds window s index)) ≡ bytes_in kinds
  unfolding fields_of answers_of bytes_in
  bytes_size [] = refl
  bytes_size (kind ∷ kinds) =
      length-append (decode_of kind window s index).message (fields_of message_of (answers_of kinds window s index))
      ∙ ap₂ (λ (a b : ℕ). a + b) (decode_size kind s window index) (bytes_size kinds)

  -- a field that has the same width in every answer
  pub width_size : {A : Type 0} (field : Answer → List A) (w : ℕ) → ((a : Answer) → length (field a) ≡ w) → (kinds : List Kind)
      → length (fields_of field (answers_of kinds window s index)) ≡ w * length kinds
  unfolding fields_of answers_of
  width_size field w each [] = rw (mul-zero w)
  width_size field w each (kind ∷ kinds) =
      length-append (field (decode_of kind window s index)) (fields_of field (answers_of kinds window s index))
      ∙ ap₂ (λ (a b : ℕ). a + b) (each (decode_of kind window s index)) (width_size field w each kinds)
      ∙ rw (mul-suc w (length kinds)) (add_comm w (w * length kinds))
