-- FROM A LINE BACK TO ITS ANSWER: two windows with the same line have the same answer, in all that a line says; with the same two lines
-- the same two answers.
-- Assumes nothing.
use Rattle.std.specs.Prelude.{◌≡◌, List, ◌⊎◌, ℕ, ◌^◌, ◌<◌, ◌≤◌, T, Float, get_or}
use Rattle.std.specs.Float.{binary32}
use Rattle.std.specs.Float.Ieee.{fits}
use Rattle.search.specs.declared.Settings.{Settings}
use Rattle.search.specs.declared.Answer.{Answer}
use Rattle.search.specs.Kinds.{Kind, long, short}
use Rattle.search.specs.Answers.{decode_of}
use Rattle.listing.specs.Lines.{said_number, window_line, window_lines}

-- What every value of the types `Answer` and `ShortAnswer` has, by the types that their fields are declared with: u32, u8, u64, f32
-- (proofs/Typed.antt).
pub record Stored (a : Answer) : Type 0 where
  pub number : a.number < 2 ^ 32
  pub message : (k : ℕ) → get_or a.message k 0 < 256
  pub cn0 : T (fits binary32 a.cn0)
  pub index : a.index < 2 ^ 64
  pub fraction : T (fits binary32 a.fraction)
  pub undecided : a.undecided < 2 ^ 32

-- one of the two kinds that are searched for
abbrev pub Either : Kind → Type 0
Either κ = (κ ≡ long) ⊎ (κ ≡ short)

-- What is the same of window k with the answer a, which is said by the number x, and window l with the answer b, said by y.
pub record SameSaid (k l x y : ℕ) (a b : Answer) : Type 0 where
  -- whether there is a message (0), nothing (1) or a refusal, and which
  pub number : x ≡ y
  -- which window it is, where it is not refused
  pub window : x ≤ 1 → k ≡ l
  -- of a message, all but its place
  pub message : x ≡ 0 → a.message ≡ b.message
  pub repairs : x ≡ 0 → a.location.repairs ≡ b.location.repairs
  pub slicer : x ≡ 0 → a.location.slicer ≡ b.location.slicer
  pub trial : x ≡ 0 → a.location.trial ≡ b.location.trial
  pub index : x ≡ 0 → a.index ≡ b.index
  pub fraction : x ≡ 0 → a.fraction ≡ b.fraction
  pub cn0 : x ≡ 0 → a.cn0 ≡ b.cn0
  pub undecided : x ≡ 0 → a.undecided ≡ b.undecided

pub record LineDetermines : Type 0 where
  -- of all answers that are values of their type, for messages of either kind
  pub same : (κ ι : Kind) (k l : ℕ) (a b : Answer) → Either κ → Either ι → k < 2 ^ 64 → l < 2 ^ 64 → Stored a → Stored b
      → window_line κ.bytes k a ≡ window_line ι.bytes l b → SameSaid k l (said_number κ.bytes a) (said_number ι.bytes b) a b
  -- a decode is said by its own number, whatever the samples, the settings and the index are: the location of its message is taken
  pub own : (κ : Kind) (samples : List Float) (s : Settings) (i : ℕ) → Either κ
      → said_number κ.bytes (decode_of κ samples s i) ≡ (decode_of κ samples s i).number
  -- of decodes of either kind
  pub decoded : (κ ι : Kind) (k l : ℕ) (samples others : List Float) (s t : Settings) (i j : ℕ) → Either κ → Either ι → k < 2 ^ 64 → l < 2 ^ 64
      → let a = decode_of κ samples s i in let b = decode_of ι others t j in
      window_line κ.bytes k a ≡ window_line ι.bytes l b → SameSaid k l a.number b.number a b
  -- of both searches of a window: its lines say what each of them answered
  pub both : (k l : ℕ) (samples others : List Float) (s t : Settings) (i j : ℕ) → k < 2 ^ 64 → l < 2 ^ 64
      → let a = decode_of long samples s i in let b = decode_of short samples s i in
      let c = decode_of long others t j in let d = decode_of short others t j in
      window_lines k a b ≡ window_lines l c d → SameSaid k l a.number c.number a c × SameSaid k l b.number d.number b d
