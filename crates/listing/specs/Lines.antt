-- The lines of a listing.
-- Assumes nothing.
use Rattle.std.specs.Prelude.{cond, ◌&&◌, List, [], ◌∷◌, ◌++◌, ℕ, ◌-◌, eqb, leb, length, replicate}
use Rattle.mode_s.specs.Avr.{avr_text}
use Rattle.place.specs.Agrees.{location_number}
use Rattle.search.specs.declared.Answer.{Answer}
use Rattle.search.specs.Answers.{or_number}
use Rattle.listing.specs.declared.Text.{Text}
use Rattle.listing.specs.Fields.{decimal, float_text, address_text, repairs_text, slicer_text}

-- fields with a space between two, and a line feed at the end
unfoldable pub line : List (List ℕ) → List ℕ
line [] = 0x0A ∷ []
line (f ∷ []) = f ++ (0x0A ∷ [])
line (f ∷ g ∷ fs) = f ++ (0x20 ∷ line (g ∷ fs))

-- `windows N`
unfoldable pub head_line : ℕ → List ℕ
head_line n = line ((0x77 ∷ 0x69 ∷ 0x6E ∷ 0x64 ∷ 0x6F ∷ 0x77 ∷ 0x73 ∷ []) ∷ decimal n ∷ [])

-- `refused N`
unfoldable pub refused_line : ℕ → List ℕ
refused_line number = line ((0x72 ∷ 0x65 ∷ 0x66 ∷ 0x75 ∷ 0x73 ∷ 0x65 ∷ 0x64 ∷ []) ∷ decimal number ∷ [])

-- `N none`
unfoldable pub none_line : ℕ → List ℕ
none_line window = line (decimal window ∷ (0x6E ∷ 0x6F ∷ 0x6E ∷ 0x65 ∷ []) ∷ [])

-- window, sample index, fraction, AVR text, address, repairs, slicer, cn0, undecided bits, trial
unfoldable pub found_line : ℕ → Answer → List ℕ
found_line window a =
    line
    (decimal window
    ∷ decimal a.index
    ∷ float_text a.fraction
    ∷ avr_text a.message
    ∷ address_text a.message
    ∷ repairs_text a.location.repairs
    ∷ slicer_text a.location.slicer
    ∷ float_text a.cn0
    ∷ decimal a.undecided
    ∷ decimal a.location.trial
    ∷ [])

-- the number that an answer of the search for n bytes is said by: its own, or where that is 0, what is refused of its location
unfoldable pub said_number : ℕ → Answer → ℕ
said_number n a = or_number a.number (location_number n a.location)

-- what that search says of a window: number 0 is a message, 1 is none, any other a refusal
unfoldable pub window_line : ℕ → ℕ → Answer → List ℕ
window_line n window a =
    let said = said_number n a in
    cond (eqb said 0) (found_line window a) (cond (eqb said 1) (none_line window) (refused_line said))

-- the line of a message, if there is one
unfoldable pub message_line : ℕ → ℕ → Answer → List ℕ
message_line n window a = cond (eqb (said_number n a) 0) (found_line window a) []

-- WHAT IS SAID OF A WINDOW, by the answers of the long and the short search: a refusal, once; `none` where both found nothing; else the
-- line of the long message, if there is one, and behind it that of the short one
unfoldable pub window_lines : ℕ → Answer → Answer → List ℕ
window_lines window a b =
    let long = said_number 14 a in
    let short = said_number 7 b in
    cond (leb 2 long) (refused_line long)
    (cond (leb 2 short) (refused_line short)
    (cond (eqb long 1 && eqb short 1) (none_line window) (message_line 14 window a ++ message_line 7 window b)))

-- some bytes and how many they are, with zeros behind them
unfoldable pub text_of : List ℕ → Text
text_of bytes = record { length = length bytes; bytes = bytes ++ replicate (256 - length bytes) 0 }
