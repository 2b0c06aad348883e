-- IS A TRAY OF WINDOWS ANYTHING BUT ITS SINGLE CALLS? No. What a tray writes for a window is what the single calls answer for it, its index
-- and the settings, and no other window of the tray has a part in it. A tray that is refused writes nothing.
-- Assumes nothing.
use Rattle.std.specs.Prelude.{◌≡◌, List, ◌≢◌, ℕ, ◌*◌, ◌<◌, length, get_or, take, drop, Float}
use Rattle.search.specs.declared.Settings.{Settings}
use Rattle.search.specs.Kinds.{Kind}
use Rattle.rows.specs.Rows.{result_of, numbers_of, Lent, rows_of}
use Rattle.rows.specs.Tray.{window_at, answers_of, fields_of, message_of, bytes_in, words_in, floats_in}

-- a tray's number, and the memory that was lent as it is then: the bytes of messages, whole numbers, floats
abbrev pub Written : Type 0
Written = ℕ × List ℕ × List ℕ × List Float

-- result k in that memory
unfoldable pub result_at : List Kind → ℕ → Written → Lent
result_at kinds k (number, messages, words, floats) = (
  take (bytes_in kinds) (drop (bytes_in kinds * k) messages),
  take (words_in kinds) (drop (words_in kinds * k) words),
  take (floats_in kinds) (drop (floats_in kinds * k) floats),
)

-- what the single calls answer for a window: its bytes, its whole numbers with its number behind them, its floats
unfoldable pub single_calls : List Kind → List Float → Settings → ℕ → Lent
single_calls kinds window s index =
    let answers = answers_of kinds window s index in
    (fields_of message_of answers, fields_of result_of answers, fields_of numbers_of answers)

-- ALL OF IT, of any number of windows, any settings, indices and memory: `tray` is what a program answers and leaves behind.
pub record Trayed (kinds : List Kind) (tray : ℕ → List Float → Settings → List ℕ → Lent → Written) : Type 0 where
  -- 1. A tray is its single calls in order: result k is what they answer for window k and index k.
  pub in_order : (n : ℕ) (samples : List Float) (s : Settings) (indices : List ℕ) (memory : Lent) → (tray n samples s indices memory).0 ≡ 0
      → (k : ℕ) → k < n → result_at kinds k (tray n samples s indices memory) ≡ single_calls kinds (window_at samples k) s (get_or indices k 0)
  -- Window k is the one that was laid there.
  pub laid : (windows : ℕ → List Float) (n : ℕ) → ((i : ℕ) → i < n → length (windows i) ≡ 2310) → (k : ℕ) → k < n
      → window_at (rows_of windows n) k ≡ windows k
  -- 2. Result k depends on window k, its index and the settings only: two trays that agree there have the same result k, whatever else
  -- lies in them, however many windows they have, and whatever the memory held.
  pub alone : (n n' : ℕ) (samples samples' : List Float) (s : Settings) (indices indices' : List ℕ) (memory memory' : Lent)
      → (tray n samples s indices memory).0 ≡ 0 → (tray n' samples' s indices' memory').0 ≡ 0 → (k : ℕ) → k < n → k < n'
      → window_at samples k ≡ window_at samples' k → get_or indices k 0 ≡ get_or indices' k 0
      → result_at kinds k (tray n samples s indices memory) ≡ result_at kinds k (tray n' samples' s indices' memory')
  -- 3. A tray that is refused leaves the memory as it was, and what is taken has at most 64 windows.
  pub refused : (n : ℕ) (samples : List Float) (s : Settings) (indices : List ℕ) (memory : Lent) → (tray n samples s indices memory).0 ≢ 0
      → ((tray n samples s indices memory).1, (tray n samples s indices memory).2, (tray n samples s indices memory).3) ≡ memory
  pub few : (n : ℕ) (samples : List Float) (s : Settings) (indices : List ℕ) (memory : Lent) → (tray n samples s indices memory).0 ≡ 0 → n < 65
