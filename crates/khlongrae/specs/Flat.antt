-- A decode into lent memory, whose answer lies there as rows of numbers.
-- Assumes nothing.
use Rattle.std.specs.Prelude.{◌&&◌, cond, List, ℕ, eqb, length, Float}
use Rattle.search.specs.declared.Settings.{Settings}
use Rattle.search.specs.declared.Answer.{Answer}
use Rattle.search.specs.Kinds.{Kind, long, short}
use Rattle.search.specs.Answers.{or_number, decode_of}
use Rattle.rows.specs.Rows.{words_of, numbers_of, Lent}
use Rattle.khlongrae.specs.declared.decode.FlatBoth.{FlatBoth}

abbrev pub settings_of : ℕ → Float → Float → ℕ → Settings
settings_of level threshold second distance = record { level = level; threshold = threshold; second = second; distance = distance }

-- a number, and what the lent memory holds
abbrev pub Written : Type 0
Written = ℕ × List ℕ × List ℕ × List Float

abbrev pub holding : ℕ → Lent → Written
holding n (message, words, numbers) = (n, message, words, numbers)

-- number 0 fills the memory; any other number leaves it as it was
unfoldable pub filled : ℕ → Lent → Lent → Written
filled n new old = holding n (cond (eqb n 0) new old)

-- an answer in the memory
abbrev pub written : Answer → Lent → Written
written a old = filled a.number (a.message, words_of a, numbers_of a) old

-- the same with a refusal before it
unfoldable pub written_or : ℕ → Answer → Lent → Written
written_or n a old = cond (eqb n 0) (written a old) (holding n old)

-- a window has 2,310 numbers, else 2; the memory has so many bytes, 10 whole numbers and 2 floats, else 3
unfoldable pub lent_number : ℕ → List Float → Lent → ℕ
lent_number bytes samples (message, words, numbers) =
    cond (eqb (length samples) 2310) (cond (eqb (length message) bytes && (eqb (length words) 10 && eqb (length numbers) 2)) 0 3) 2

-- THE DECODE INTO LENT MEMORY
unfoldable pub decode_into : Kind → List Float → Settings → ℕ → Lent → Written
decode_into kind samples s index old = written_or (lent_number kind.bytes samples old) (decode_of kind samples s index) old

-- ---- both kinds

-- two numbers, and what the memory of either holds
abbrev pub BothWritten : Type 0
BothWritten = FlatBoth × List ℕ × List ℕ × List Float × List ℕ × List ℕ × List Float

abbrev pub beside : Written → Written → BothWritten
beside (n, m, w, x) (k, m', w', x') = (record { number = n; short_number = k }, m, w, x, m', w', x')

-- THE DECODE OF BOTH KINDS INTO LENT MEMORY: what is refused of one is refused of both
unfoldable pub both_into : List Float → Settings → ℕ → Lent → Lent → BothWritten
both_into samples s index old other =
    let n = or_number (lent_number long.bytes samples old) (lent_number short.bytes samples other) in
    beside (written_or n (decode_of long samples s index) old) (written_or n (decode_of short samples s index) other)
