-- The definitions at small inputs: settings with level 2, thresholds 67 and 71, distance 8, and no samples.
-- Assumes nothing.
use mathlib.Core.Path.{◌≡◌, refl}
use mathlib.Core.List.{List, [], ◌∷◌, ◌++◌}
use Prim.Native.Nat.{ℕ}
use lib.Ieee.{of_bits}
use Rattle.search.specs.Answers.{index_number}
use Rattle.words.specs.Words.{little_endian}
use Rattle.feed.specs.Parts.{end, failure, head, refusal, next_bytes, next_number, need}
use Rattle.feed.specs.Lines.{ending, window_lines, samples_lines, indices_lines, lines_of}

-- the settings count and the settings, with a level and a second threshold
abbrev settings : ℕ → List ℕ → List ℕ → List ℕ
settings level second rest =
    (4 ∷ 0 ∷ 0 ∷ 0 ∷ level ∷ 0 ∷ 0 ∷ 0 ∷ 0 ∷ 0 ∷ 0x86 ∷ 0x42 ∷ []) ++ (second ++ (8 ∷ 0 ∷ 0 ∷ 0 ∷ rest))

-- 71
abbrev higher : List ℕ
higher = 0 ∷ 0 ∷ 0x8E ∷ 0x42 ∷ []

-- no window, and no sample
abbrev nothing : List ℕ
nothing = 0 ∷ 0 ∷ 0 ∷ 0 ∷ 0 ∷ 0 ∷ 0 ∷ 0 ∷ []

empty : lines_of end [] ≡ refusal 10 ∷ []
unfolding lines_of next_number next_bytes
empty = refl

none_announced : lines_of end (settings 2 higher nothing) ≡ head 0 ∷ []
unfolding lines_of next_number next_bytes need little_endian indices_lines samples_lines window_lines ending of_bits
none_announced = refl

byte_too_many : lines_of end (settings 2 higher (nothing ++ (0 ∷ []))) ≡ head 0 ∷ refusal 10 ∷ []
unfolding lines_of next_number next_bytes need little_endian indices_lines samples_lines window_lines ending of_bits
byte_too_many = refl

-- where no byte comes, but no end either
broken_off_law : lines_of failure (settings 2 higher nothing) ≡ head 0 ∷ refusal 10 ∷ []
unfolding lines_of next_number next_bytes need little_endian indices_lines samples_lines window_lines ending of_bits
broken_off_law = refl

-- the level is looked at before a second threshold that is NaN, and that before 65 windows
level_first : lines_of end (settings 3 (0 ∷ 0 ∷ 0xC0 ∷ 0x7F ∷ []) (65 ∷ 0 ∷ 0 ∷ 0 ∷ [])) ≡ refusal 4 ∷ []
unfolding lines_of next_number next_bytes need little_endian of_bits
level_first = refl

threshold_next : lines_of end (settings 2 (0 ∷ 0 ∷ 0xC0 ∷ 0x7F ∷ []) (65 ∷ 0 ∷ 0 ∷ 0 ∷ [])) ≡ refusal 5 ∷ []
unfolding lines_of next_number next_bytes need little_endian of_bits
threshold_next = refl

windows_then : lines_of end (settings 2 higher (65 ∷ 0 ∷ 0 ∷ 0 ∷ [])) ≡ refusal 10 ∷ []
unfolding lines_of next_number next_bytes need little_endian of_bits
windows_then = refl

-- index 127, and nothing behind it
index_last : lines_of end (settings 2 higher (1 ∷ 0 ∷ 0 ∷ 0 ∷ 127 ∷ 0 ∷ 0 ∷ 0 ∷ 0 ∷ 0 ∷ 0 ∷ 0 ∷ [])) ≡ refusal 6 ∷ []
unfolding lines_of next_number next_bytes need little_endian indices_lines index_number of_bits
index_last = refl
