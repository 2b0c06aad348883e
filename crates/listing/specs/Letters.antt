-- WHOSE ADDRESS A LINE NAMES: the address as it is printed, for every first byte.
-- Assumes nothing.
use Rattle.std.specs.Prelude.{◌≡◌, false, List, [], ◌∷◌, ◌++◌, map, ℕ, ◌+◌, ◌*◌}
use Rattle.annex10.specs.Header.{capabilities, controls, long_header, short_header}
use Rattle.annex10.specs.Address.{address_kind}
use Rattle.annex10.specs.Repair.{repaired, repaired_head}
use Rattle.annex10.specs.declared.Repairs.{Repairs}
use Rattle.mode_s.specs.Avr.{hex_text}
use Rattle.listing.specs.Fields.{address_digits, marked, address_text}

-- the first bytes of the long messages that a decode takes, list by list
abbrev pub headers : List ℕ
headers = map (λ (code : ℕ). 8 * 17 + code) capabilities ++ map (λ (code : ℕ). 8 * 18 + code) controls

-- and those of the short ones
abbrev pub short_headers : List ℕ
short_headers = map (λ (code : ℕ). 8 * 11 + code) capabilities

-- the digits behind `I`, `X` or `?`, and `-` in their place
abbrev pub I : List ℕ → List ℕ
I digits = 0x49 ∷ digits

abbrev pub X : List ℕ → List ℕ
X digits = 0x58 ∷ digits

abbrev pub asked : List ℕ → List ℕ
asked digits = 0x3F ∷ digits

abbrev pub dash : List ℕ
dash = 0x2D ∷ []

pub record Letters : Type 0 where
  -- of a message that begins with each of them in turn, and goes on with x, y and z:
  -- format 17 with capability 0, 4, 5, 6 and 7, then format 18 with control code 0, 2, 3, 4, 5 and 6
  pub listed : (x y z : ℕ) (rest : List ℕ) → let d = hex_text (x ∷ y ∷ z ∷ []) in
      map (λ (first : ℕ). address_text (first ∷ x ∷ y ∷ z ∷ rest)) headers
      ≡ I d ∷ I d ∷ I d ∷ I d ∷ I d
      ∷ I d ∷ asked d ∷ asked d ∷ dash ∷ X d ∷ asked d ∷ []
  -- the same of the short ones: format 11 with capability 0, 4, 5, 6 and 7
  pub listed_short : (x y z : ℕ) (rest : List ℕ) → let d = hex_text (x ∷ y ∷ z ∷ []) in
      map (λ (first : ℕ). address_text (first ∷ x ∷ y ∷ z ∷ rest)) short_headers ≡ I d ∷ I d ∷ I d ∷ I d ∷ I d ∷ []
  -- no first byte that is on neither list claims an address
  pub others : (first : ℕ) (rest : List ℕ) → long_header first ≡ false → short_header first ≡ false → address_text (first ∷ rest) ≡ dash
  -- of a message that was repaired, the kind is that of the first byte as its header was checked: after the repairs, not as it was received
  pub after : (first : ℕ) (rest : List ℕ) (ρ : Repairs) → let message = repaired (first ∷ rest) ρ in
      address_text message ≡ marked (address_kind (repaired_head first ρ)) (address_digits message)
