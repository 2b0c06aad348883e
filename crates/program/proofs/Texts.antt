-- The text of what is said, by what is said; the floats of a window's bytes.
-- Assumes nothing.
use mathlib.Core.Path.{◌≡◌, ap}
use mathlib.Core.List.{List, [], ◌∷◌, append-nil}
use Prim.Native.Nat.{ℕ}
use lib.Ieee.{Float}
use lib.ListN.{length}
use Rattle.lists.specs.From.{tabulate}
use Rattle.words.specs.Words.{float_at, window_floats}
use Rattle.feed.specs.Parts.{Line}
use Rattle.feed.specs.Listing.{line_text, texts}

-- a line by itself
pub texts_one : (line : Line) → texts (line ∷ []) ≡ line_text line
unfolding texts
texts_one line = append-nil (line_text line)

pub floats_done : (bytes : List ℕ) (out : List Float) {r : ℕ} {x : List Float} → length bytes ≡ 9240 → length out ≡ 2310
    → (r, x) ≡ window_floats bytes out → x ≡ tabulate 2310 (float_at bytes)
unfolding window_floats
floats_done bytes out h k e = ap (λ (p : ℕ × List Float). p.1) (simp (h, k) at e)
