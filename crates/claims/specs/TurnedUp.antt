-- DOES TURNING THE KNOB UP CHANGE OLD LINES? No. Where the level is raised, and window, index, thresholds and distance are the same, what
-- was answered and printed stays as it was; only where a search had found nothing a message may be gained. Of a level that is lowered, and
-- of other thresholds, nothing is said.
-- Assumes nothing.
use Rattle.std.specs.Prelude.{◌≡◌, List, ◌++◌, ◌⊎◌, ◌≢◌, ℕ, ◌^◌, ◌≤◌, ◌<◌, Float}
use Rattle.annex10.specs.Repair.{count}
use Rattle.search.specs.declared.Settings.{Settings}
use Rattle.search.specs.declared.Answer.{Answer}
use Rattle.listing.specs.Lines.{none_line, found_line, window_lines}

-- The level is raised from that of s to that of t, or stays; it is one that is accepted, and nothing else changes.
pub record Raised (s t : Settings) : Type 0 where
  pub up : s.level ≤ t.level
  pub accepted : t.level ≤ 2
  pub threshold : t.threshold ≡ s.threshold
  pub second : t.second ≡ s.second
  pub distance : t.distance ≡ s.distance

-- a message with more repairs than the level of s permits, and no more than that of t does
abbrev pub Gained : Settings → Settings → Answer → Type 0
Gained s t a = (a.number ≡ 0) × (s.level < count a.location.repairs) × (count a.location.repairs ≤ t.level)

-- What a search answered with s, and what it answers with t.
pub record AnswerStays (s t : Settings) (old new : Answer) : Type 0 where
  -- a message is the same answer, every field
  pub message : old.number ≡ 0 → new ≡ old
  -- where there was nothing there is nothing, or a message is gained
  pub nothing : old.number ≡ 1 → (new ≡ old) ⊎ Gained s t new
  -- a refusal is the same refusal
  pub refusal : 2 ≤ old.number → new ≡ old
  -- and the other way round: a message that needs no more repairs than the level of s permits was there already
  pub already : new.number ≡ 0 → count new.location.repairs ≤ s.level → old ≡ new

-- What is printed of window k: with s the long search answered a and the short one b, with t they answer c and d.
pub record LinesStay (s t : Settings) (k : ℕ) (a b c d : Answer) : Type 0 where
  -- Where `none` did not stand, the lines are the same, byte for byte. Where one search's line stood alone, the other's may be gained: a
  -- long one before it, a short one behind it.
  pub stay : let old = window_lines k a b in let new = window_lines k c d in
      old ≢ none_line k
      → (new ≡ old)
      ⊎ (Gained s t c × (old ≡ found_line k d) × (new ≡ found_line k c ++ old))
      ⊎ (Gained s t d × (old ≡ found_line k c) × (new ≡ old ++ found_line k d))
  -- Where it stood, it stands, or what was gained stands in its place.
  pub gain : let old = window_lines k a b in let new = window_lines k c d in
      old ≡ none_line k
      → (new ≡ old)
      ⊎ (Gained s t c × (new ≡ found_line k c))
      ⊎ (Gained s t d × (new ≡ found_line k d))
      ⊎ (Gained s t c × Gained s t d × (new ≡ found_line k c ++ found_line k d))

-- ALL OF IT, of every window, settings and index: `decode` is what a program answers for long messages, `decode_short` for short ones.
pub record TurnedUp (decode decode_short : List Float → Settings → ℕ → Answer) : Type 0 where
  -- 1. Each search by itself.
  pub long : (samples : List Float) (s t : Settings) (index : ℕ) → Raised s t → AnswerStays s t (decode samples s index) (decode samples t index)
  pub short : (samples : List Float) (s t : Settings) (index : ℕ) → Raised s t
      → AnswerStays s t (decode_short samples s index) (decode_short samples t index)
  -- A short message has one repair at most, so from level 1 on nothing of it is gained.
  pub short_full : (samples : List Float) (s t : Settings) (index : ℕ) → Raised s t → 1 ≤ s.level
      → decode_short samples t index ≡ decode_short samples s index
  -- 2. What is printed.
  pub lines : (k : ℕ) (samples : List Float) (s t : Settings) (index : ℕ) → k < 2 ^ 64 → Raised s t
      → LinesStay s t k (decode samples s index) (decode_short samples s index) (decode samples t index) (decode_short samples t index)
