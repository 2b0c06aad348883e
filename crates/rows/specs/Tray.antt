-- A tray of windows: for each of them what the single calls answer, in rows.
-- Assumes nothing.
use Rattle.std.specs.Prelude.{Bool, true, false, ◌&&◌, cond, List, [], ◌∷◌, ◌++◌, ℕ, ◌+◌, ◌*◌, eqb, leb, length, get_or, take, drop, Float}
use Rattle.search.specs.declared.Settings.{Settings}
use Rattle.search.specs.declared.Answer.{Answer}
use Rattle.search.specs.Kinds.{Kind, long, short}
use Rattle.search.specs.Answers.{or_number, settings_number, decode_of}
use Rattle.rows.specs.Rows.{result_of, numbers_of, Lent, rows_of}

-- a tray for long messages, or one for both searches of each window
unfoldable pub kinds_of : Bool → List Kind
kinds_of false = long ∷ []
kinds_of true = long ∷ short ∷ []

-- window k of windows that lie one behind another
unfoldable pub window_at : List Float → ℕ → List Float
window_at samples k = take 2310 (drop (2310 * k) samples)

-- what the single calls answer for a window: one for each kind
unfoldable pub answers_of : List Kind → List Float → Settings → ℕ → List Answer
answers_of [] window s index = []
answers_of (kind ∷ kinds) window s index = decode_of kind window s index ∷ answers_of kinds window s index

-- a field of some answers, side by side
unfoldable pub fields_of : {A : Type 0} → (Answer → List A) → List Answer → List A
fields_of field [] = []
fields_of field (a ∷ more) = field a ++ fields_of field more

abbrev pub message_of : Answer → List ℕ
message_of a = a.message

-- RESULT k OF A TRAY, a field of it: of what the single calls answer for window k, index k and the settings
unfoldable pub tray_row : {A : Type 0} → (Answer → List A) → List Kind → List Float → Settings → List ℕ → ℕ → List A
tray_row field kinds samples s indices k = fields_of field (answers_of kinds (window_at samples k) s (get_or indices k 0))

-- how many bytes, whole numbers and floats a result has
unfoldable pub bytes_in : List Kind → ℕ
bytes_in [] = 0
bytes_in (kind ∷ kinds) = kind.bytes + bytes_in kinds

abbrev pub words_in : List Kind → ℕ
words_in kinds = 11 * length kinds

abbrev pub floats_in : List Kind → ℕ
floats_in kinds = 2 * length kinds

-- there is room for n results
unfoldable pub room_in : List Kind → ℕ → Lent → Bool
room_in kinds n (messages, words, floats) =
    eqb (length messages) (bytes_in kinds * n) && (eqb (length words) (words_in kinds * n) && eqb (length floats) (floats_in kinds * n))

-- at most 64 windows of 2,310 numbers each and as many indices, else 2; room for as many results, else 3; then the settings: 4, 5
unfoldable pub tray_number : List Kind → ℕ → List Float → Settings → List ℕ → Lent → ℕ
tray_number kinds n samples s indices memory =
    or_number (cond (leb n 64 && (eqb (length samples) (2310 * n) && eqb (length indices) n)) 0 2)
    (or_number (cond (room_in kinds n memory) 0 3) (settings_number s))

-- THE TRAY: its n results one behind another; where it is refused the memory is as it was
unfoldable pub tray_into : List Kind → ℕ → List Float → Settings → List ℕ → Lent → ℕ × List ℕ × List ℕ × List Float
tray_into kinds n samples s indices (messages, words, floats) =
    let number = tray_number kinds n samples s indices (messages, words, floats) in
    cond (eqb number 0) (
      0,
      rows_of (tray_row message_of kinds samples s indices) n,
      rows_of (tray_row result_of kinds samples s indices) n,
      rows_of (tray_row numbers_of kinds samples s indices) n,
    )
    (number, messages, words, floats)
