-- THE LISTING OF AN INPUT, whatever its bytes are: the texts of its lines.
-- Assumes nothing.
use Rattle.std.specs.Prelude.{List, [], ◌∷◌, ◌++◌, ℕ, Float}
use Rattle.lists.specs.From.{tabulate}
use Rattle.search.specs.declared.Settings.{Settings}
use Rattle.search.specs.Kinds.{long, short}
use Rattle.search.specs.Answers.{decode_of}
use Rattle.words.specs.Words.{float_at}
use Rattle.listing.specs.Lines.{head_line, refused_line, window_lines}
use Rattle.feed.specs.Parts.{end, Line, head, window, refusal}
use Rattle.feed.specs.Lines.{lines_of}

-- of a window, what its long decode answers and its short one
unfoldable pub window_text : ℕ → List Float → Settings → ℕ → List ℕ
window_text k samples s index = window_lines k (decode_of long samples s index) (decode_of short samples s index)

unfoldable pub line_text : Line → List ℕ
line_text (head n) = head_line n
line_text (window k s index part) = window_text k (tabulate 2310 (float_at part)) s index
line_text (refusal number) = refused_line number

unfoldable pub texts : List Line → List ℕ
texts [] = []
texts (line ∷ lines) = line_text line ++ texts lines

unfoldable pub listing_of : List ℕ → List ℕ
listing_of input = texts (lines_of end input)
