-- No field has a space in it: every byte of a field is above it, and digits are above a comma too.
-- Assumes nothing.
use mathlib.Core.Bool.{Bool, true, false, cond}
use mathlib.Core.List.{List, [], ◌∷◌, ◌++◌}
use Prim.Native.Nat.{ℕ, zero, suc, ◌+◌, ◌-◌, ◌/◌, ◌%◌, ◌<◌}
use native.Mathlib.Omega.{arith}
use lib.Dec.{ltb}
use lib.Ieee.{Float}
use Rattle.annex10.specs.declared.AddressKind.{AddressKind}
use Rattle.annex10.specs.declared.AddressKind.TheVariants.{Icao, Other, Flagged, NoAddress}
use Rattle.annex10.specs.declared.Repairs.{Repairs}
use Rattle.annex10.specs.declared.Repairs.TheVariants.{None, One, Two}
use Rattle.place.specs.declared.Slicer.{Slicer}
use Rattle.place.specs.declared.Slicer.TheVariants.{Coherent, Noncoherent}
use Rattle.mode_s.specs.Avr.{hex_digit, hex_text, avr_text}
use Rattle.listing.specs.Fields.{decimal_in, decimal, hex_word, float_text, address_digits, marked, address_text, repairs_text, slicer_text}
use Rattle.listing.proofs.Split.{Above, above_both, above_less}

-- every digit is at least `0`
decimal_above : (places n : ℕ) → Above 0x2F (decimal_in places n)
unfolding decimal_in
decimal_above zero n = tt
decimal_above (suc places) n = go (ltb n 10) (decimal_above places (n / 10))
  where
    go : (b : Bool) → Above 0x2F (decimal_in places (n / 10))
        → Above 0x2F (cond b ((48 + n) ∷ []) (decimal_in places (n / 10) ++ ((48 + n % 10) ∷ [])))
    go true h = (omega arith, tt)
    go false h = above_both 0x2F (decimal_in places (n / 10)) _ h (omega arith, tt)

pub digits_above : (s n : ℕ) → s < 0x30 → Above s (decimal n)
unfolding decimal
digits_above s n h = above_less s 0x2F (decimal_in 20 n) (omega arith) (decimal_above 20 n)

pub digits_visible : (n : ℕ) → Above 0x20 (decimal n)
digits_visible n = digits_above 0x20 n (omega arith)

digit_above : (n : ℕ) → 0x2F < hex_digit n
unfolding hex_digit
digit_above n = go (ltb n 10)
  where
    go : (b : Bool) → 0x2F < cond b (48 + n) (65 + (n - 10))
    go true = omega arith
    go false = omega arith

hex_above : (xs : List ℕ) → Above 0x2F (hex_text xs)
unfolding hex_text
hex_above [] = tt
hex_above (x ∷ xs) = (digit_above (x / 16), (digit_above (x % 16), hex_above xs))

hex_visible : (xs : List ℕ) → Above 0x20 (hex_text xs)
hex_visible xs = above_less 0x20 0x2F (hex_text xs) (omega arith) (hex_above xs)

pub float_visible : (x : Float) → Above 0x20 (float_text x)
unfolding float_text hex_word
float_visible x = hex_visible _

pub avr_visible : (m : List ℕ) → Above 0x20 (avr_text m)
unfolding avr_text
avr_visible m = (omega arith, above_both 0x20 (hex_text m) (59 ∷ []) (hex_visible m) (omega arith, tt))

marked_visible : (k : AddressKind) (digits : List ℕ) → Above 0x20 digits → Above 0x20 (marked k digits)
unfolding marked
marked_visible Icao digits h = (omega arith, h)
marked_visible Other digits h = (omega arith, h)
marked_visible Flagged digits h = (omega arith, h)
marked_visible NoAddress digits h = (omega arith, tt)

pub address_visible : (m : List ℕ) → Above 0x20 (address_text m)
unfolding address_text address_digits
address_visible m = marked_visible _ _ (hex_visible _)

pub repairs_visible : (ρ : Repairs) → Above 0x20 (repairs_text ρ)
unfolding repairs_text
repairs_visible None = (omega arith, tt)
repairs_visible (One j) = (omega arith, (omega arith, digits_visible j))
repairs_visible (Two j k) =
    (omega arith, (omega arith, above_both 0x20 (decimal j) _ (digits_visible j) (omega arith, digits_visible k)))

pub slicer_visible : (s : Slicer) → Above 0x20 (slicer_text s)
unfolding slicer_text
slicer_visible Coherent = (omega arith, tt)
slicer_visible Noncoherent = (omega arith, tt)
