-- WHAT THE LINES OF A WINDOW SAY: its long message, its short one, both, or `none`.
-- Assumes nothing.
use Rattle.std.specs.Prelude.{◌≡◌, false, ◌++◌, ◌↔◌, ℕ, ◌^◌, ◌<◌, ◌≤◌}
use Rattle.place.specs.Agrees.{agrees}
use Rattle.search.specs.declared.Answer.{Answer}
use Rattle.listing.specs.Lines.{refused_line, none_line, found_line, said_number, window_line, window_lines}

-- of window k with the answer a of the long search and b of the short one
pub record TwoSearches (k : ℕ) (a b : Answer) : Type 0 where
  -- where one search finds nothing, what is said is what the other says
  pub long_alone : b.number ≡ 1 → window_lines k a b ≡ window_line 14 k a
  pub short_alone : a.number ≡ 1 → window_lines k a b ≡ window_line 7 k b
  -- of two messages the long one's line is first, and the same as without the short one
  pub both : said_number 14 a ≡ 0 → said_number 7 b ≡ 0 → window_lines k a b ≡ found_line k a ++ found_line k b
  -- `none` stands exactly where both find nothing
  pub none : k < 2 ^ 64 → (window_lines k a b ≡ none_line k) ↔ ((a.number ≡ 1) × (b.number ≡ 1))
  -- a refusal stands alone, and the long search's comes first
  pub refused : 2 ≤ said_number 14 a → window_lines k a b ≡ refused_line (said_number 14 a)
  pub refused_short : said_number 14 a ≤ 1 → 2 ≤ said_number 7 b → window_lines k a b ≡ refused_line (said_number 7 b)
  -- a message whose record does not agree with the six trials is not printed: it is refused with 7
  pub disagreeing : a.number ≡ 0 → agrees a.location ≡ false → window_lines k a b ≡ refused_line 7
  pub disagreeing_short : said_number 14 a ≤ 1 → b.number ≡ 0 → agrees b.location ≡ false → window_lines k a b ≡ refused_line 7
