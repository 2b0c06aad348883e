-- No line is longer than its text.
-- Assumes nothing.
use mathlib.Core.Path.{◌≡◌, refl}
use mathlib.Core.Bool.{Bool, true, false, cond}
use mathlib.Core.List.{List, [], ◌∷◌, ◌++◌}
use Prim.Native.Nat.{ℕ, zero, suc, ◌+◌, ◌*◌, ◌/◌, ◌%◌, ◌^◌, ◌≤◌, ◌<◌}
use native.Mathlib.Nat.{pow-succ'}
use native.Mathlib.Omega.{arith}
use borrow.Author.Tests.{ltb-false}
use lib.Dec.{ltb}
use lib.ListN.{length, length-append}
use lib.Ieee.{Float}
use Rattle.annex10.specs.declared.AddressKind.{AddressKind}
use Rattle.annex10.specs.declared.AddressKind.TheVariants.{Icao, Other, Flagged, NoAddress}
use Rattle.annex10.specs.declared.Repairs.{Repairs}
use Rattle.annex10.specs.declared.Repairs.TheVariants.{None, One, Two}
use Rattle.place.specs.declared.Slicer.{Slicer}
use Rattle.place.specs.declared.Slicer.TheVariants.{Coherent, Noncoherent}
use Rattle.mode_s.specs.Avr.{hex_text}
use Rattle.mode_s.proofs.Text.{length_avr}
use Rattle.search.specs.declared.Answer.{Answer}
use Rattle.listing.specs.Fields.{decimal_in, decimal, hex_word, float_text, address_digits, marked, address_text, repairs_text, slicer_text}
use Rattle.listing.specs.Lines.{line, none_line, found_line}

-- each position is a byte
abbrev pub InBytes : Repairs → Type 0
InBytes None = Unit
InBytes (One j) = j < 256
InBytes (Two j k) = (j < 256) × (k < 256)

decimal_in_law : (places n : ℕ) → length (decimal_in places n) ≤ places
unfolding decimal_in
decimal_in_law zero n = omega arith
decimal_in_law (suc places) n = go (ltb n 10) (decimal_in_law places (n / 10))
  where
    go : (b : Bool) → length (decimal_in places (n / 10)) ≤ places
        → length (cond b ((48 + n) ∷ []) (decimal_in places (n / 10) ++ ((48 + n % 10) ∷ []))) ≤ suc places
    go true h = omega arith
    go false h = simp length-append (omega arith)

decimal_short : (n : ℕ) → length (decimal n) ≤ 20
unfolding decimal
decimal_short n = decimal_in_law 20 n

-- a number of few digits
decimal_few : (places digits n : ℕ) → n < 10 ^ suc digits → length (decimal_in places n) ≤ suc digits
unfolding decimal_in
decimal_few zero digits n h = omega arith
decimal_few (suc places) digits n h = go (ltb n 10) refl digits h (λ d. decimal_few places d (n / 10))
  where
    go : (b : Bool) → ltb n 10 ≡ b → (d : ℕ) → n < 10 ^ suc d
        → ((e : ℕ) → n / 10 < 10 ^ suc e → length (decimal_in places (n / 10)) ≤ suc e)
        → length (cond b ((48 + n) ∷ []) (decimal_in places (n / 10) ++ ((48 + n % 10) ∷ []))) ≤ suc d
    go true e d k f = omega arith
    go false e zero k f = absurd (omega (arith, ltb-false n 10 e))
    go false e (suc d) k f = simp length-append (omega (arith, f d (omega (arith, pow-succ' 10 (suc d)))))

decimal_byte : (n : ℕ) → n < 256 → length (decimal n) ≤ 3
unfolding decimal
decimal_byte n h = decimal_few 20 2 n (omega arith)

decimal_word : (n : ℕ) → n < 2 ^ 32 → length (decimal n) ≤ 10
unfolding decimal
decimal_word n h = decimal_few 20 9 n (omega arith)

float_long : (x : Float) → length (float_text x) ≡ 8
unfolding float_text hex_word hex_text
float_long x = refl

marked_short : (k : AddressKind) (digits : List ℕ) → length (marked k digits) ≤ suc (length digits)
unfolding marked
marked_short Icao digits = omega arith
marked_short Other digits = omega arith
marked_short Flagged digits = omega arith
marked_short NoAddress digits = omega arith

address_short : (message : List ℕ) → length (address_text message) ≤ 7
unfolding address_text address_digits hex_text
address_short message = marked_short _ _

pub repairs_short : (ρ : Repairs) → InBytes ρ → length (repairs_text ρ) ≤ 9
unfolding repairs_text
repairs_short None h = omega arith
repairs_short (One j) h = omega (arith, decimal_byte j h)
repairs_short (Two j k) h = simp length-append (omega (arith, decimal_byte j h.0, decimal_byte k h.1))

slicer_long : (s : Slicer) → length (slicer_text s) ≡ 1
unfolding slicer_text
slicer_long Coherent = refl
slicer_long Noncoherent = refl

pub word_short : (word : List ℕ) (n : ℕ) → length word ≤ 7 → length (line (word ∷ decimal n ∷ [])) ≤ 256
unfolding line
word_short word n h = simp length-append (omega (arith, decimal_short n))

pub none_short : (n : ℕ) → length (none_line n) ≤ 256
unfolding none_line line
none_short n = simp length-append (omega (arith, decimal_short n))

-- window and index have 20 digits at most, each float 8, an address 7, positions 6, the undecided bits 10, a trial 3; of a message each byte
-- has two
pub found_short : (window : ℕ) (a : Answer) → length (repairs_text a.location.repairs) ≤ 9 → a.undecided < 2 ^ 32 → a.location.trial < 256
    → length (found_line window a) ≤ 2 * length a.message + 98
unfolding found_line line
found_short window a h w t =
    simp length-append
    (omega (
      arith,
      decimal_short window,
      decimal_short a.index,
      float_long a.fraction,
      length_avr a.message,
      address_short a.message,
      slicer_long a.location.slicer,
      float_long a.cn0,
      decimal_word a.undecided w,
      decimal_byte a.location.trial t,
    ))

-- the line of a message is longer than `none`
pub found_longer : (window : ℕ) (a : Answer) → length (none_line window) < length (found_line window a)
unfolding found_line none_line line
found_longer window a = simp length-append (omega (arith, float_long a.fraction))
