-- The answer of a decode as rows of numbers in lent memory.
-- Assumes nothing.
use Rattle.std.specs.Prelude.{◌&&◌, cond, List, [], ◌∷◌, ◌++◌, ℕ, zero, suc, ◌*◌, eqb, length, take, drop, Float}
use Rattle.annex10.specs.declared.Repairs.{Repairs}
use Rattle.annex10.specs.declared.Repairs.TheVariants.{None, One, Two}
use Rattle.annex10.specs.Length.{message_length}
use Rattle.annex10.specs.Repair.{count}
use Rattle.place.specs.declared.Slicer.{Slicer}
use Rattle.place.specs.declared.Slicer.TheVariants.{Coherent, Noncoherent}
use Rattle.place.specs.declared.location.Location.{Location}
use Rattle.search.specs.declared.Answer.{Answer}

-- the positions of a repair, 0 where there is none
abbrev pub first_of : Repairs → ℕ
first_of None = 0
first_of (One j) = j
first_of (Two j k) = j

abbrev pub second_of : Repairs → ℕ
second_of None = 0
second_of (One j) = 0
second_of (Two j k) = k

-- coherent is 0, noncoherent 1
abbrev pub slicer_code : Slicer → ℕ
slicer_code Coherent = 0
slicer_code Noncoherent = 1

-- index, bit offset, clock phase, symbol offset, how many repairs, the two positions, the slicer, how many bits were undecided, the trial
abbrev pub row_of : ℕ → Location → ℕ → List ℕ
row_of index l undecided =
    index ∷ l.place.bit ∷ l.place.phase ∷ l.place.symbol
    ∷ count l.repairs ∷ first_of l.repairs ∷ second_of l.repairs ∷ slicer_code l.slicer ∷ undecided ∷ l.trial ∷ []

abbrev pub words_of : Answer → List ℕ
words_of a = row_of a.index a.location a.undecided

-- the ten whole numbers of an answer, and its number behind them
abbrev pub result_of : Answer → List ℕ
result_of a = words_of a ++ (a.number ∷ [])

-- cn0 and the fraction
abbrev pub numbers_of : Answer → List Float
numbers_of a = a.cn0 ∷ a.fraction ∷ []

-- lent memory: the bytes of a message, whole numbers, floats
abbrev pub Lent : Type 0
Lent = List ℕ × List ℕ × List Float

-- three rows into memory of their lengths, else 3
unfoldable pub fields_into : List ℕ → List ℕ → List Float → Lent → ℕ × List ℕ × List ℕ × List Float
fields_into found row pair (message, words, floats) =
    cond (eqb (length message) (length found) && (eqb (length words) 10 && eqb (length floats) 2)) (0, found, row, pair) (3, message, words, floats)

-- AN ANSWER INTO LENT MEMORY of 7 or 14 bytes, 11 whole numbers and 2 floats, else 3
unfoldable pub result_into : Answer → Lent → ℕ × List ℕ × List ℕ × List Float
result_into a (message, words, floats) =
    cond (message_length (length message) && (eqb (length words) 11 && eqb (length floats) 2))
    (0, take (length message) a.message, result_of a, numbers_of a)
    (3, message, words, floats)

-- the rows f 0, f 1, .. f (n - 1) one behind another
unfoldable pub rows_of : {A : Type 0} → (ℕ → List A) → ℕ → List A
rows_of f zero = []
rows_of f (suc n) = rows_of f n ++ f n

-- memory in which row k of width w is written, and all else as it was
abbrev pub with_row : {A : Type 0} → ℕ → ℕ → List A → List A → List A
with_row w k row xs = take (w * k) xs ++ (row ++ drop w (drop (w * k) xs))
