-- The definitions give the worked listing, a short message's line, the refusal of one that no trial finds so, a NaN's bits and the text of
-- two repairs.
-- Assumes nothing.
use mathlib.Core.Path.{◌≡◌, refl}
use mathlib.Core.Bool.{false}
use mathlib.Core.List.{[], ◌∷◌}
use Prim.Native.Nat.{ℕ}
use lib.Ieee.{binary32, of_bits, to_bits, nan, inf}
use Rattle.annex10.specs.Header.{one_of}
use Rattle.annex10.specs.Address.{by_capability, address_kind}
use Rattle.annex10.specs.declared.Repairs.TheVariants.{None, Two}
use Rattle.place.specs.declared.Slicer.TheVariants.{Coherent}
use Rattle.place.specs.Step.{within}
use Rattle.place.specs.Agrees.{agrees, record_number, location_number}
use Rattle.mode_s.specs.Avr.{hex_digit, hex_text, avr_text}
use Rattle.search.specs.declared.Answer.{Answer}
use Rattle.listing.specs.Fields.{decimal_in, decimal, hex_word, float_text, address_digits, marked, address_text, repairs_text, slicer_text}
use Rattle.listing.specs.Lines.{line, head_line, refused_line, none_line, found_line, said_number, window_line}

-- what is found in window 0 of the worked listing, with the number of a trial
by_trial : ℕ → Answer
by_trial trial =
    record {
      number = 0;
      location = record { place = record { bit = 15; phase = 3; symbol = 1 }; trial = trial; slicer = Coherent; repairs = None };
      message = 0x88 ∷ 0x07 ∷ 0x76 ∷ 0xAC ∷ 0 ∷ 0 ∷ 0 ∷ 0 ∷ 0 ∷ 0 ∷ 0 ∷ 0 ∷ 0 ∷ 0 ∷ [];
      cn0 = inf false;
      index = 128;
      fraction = of_bits binary32 0xBF000000;
      undecided = 0;
    }

-- it is trial 1 that finds it
answer : Answer
answer = by_trial 1

-- `windows 2`
worked_head : head_line 2 ≡ 0x77 ∷ 0x69 ∷ 0x6E ∷ 0x64 ∷ 0x6F ∷ 0x77 ∷ 0x73 ∷ 0x20 ∷ 0x32 ∷ 0x0A ∷ []
unfolding head_line line decimal decimal_in
worked_head = refl

-- `0 128 BF000000 *880776AC00000000000000000000; I0776AC 0 C 7F800000 0 1`
worked_found : found_line 0 answer ≡ 0x30 ∷ 0x20 ∷ 0x31 ∷ 0x32 ∷ 0x38 ∷ 0x20 ∷ 0x42 ∷ 0x46 ∷ 0x30 ∷ 0x30 ∷ 0x30 ∷ 0x30 ∷ 0x30 ∷ 0x30 ∷ 0x20 ∷ 0x2A ∷ 0x38 ∷ 0x38 ∷ 0x30 ∷ 0x37 ∷ 0x37 ∷ 0x36 ∷ 0x41 ∷ 0x43 ∷ 0x30 ∷ 0x30 ∷ 0x30 ∷ 0x30 ∷ 0x30 ∷ 0x30 ∷ 0x30 ∷ 0x30 ∷ 0x30 ∷ 0x30 ∷ 0x30 ∷ 0x30 ∷ 0x30 ∷ 0x30 ∷ 0x30 ∷ 0x30 ∷ 0x30 ∷ 0x30 ∷ 0x30 ∷ 0x30 ∷ 0x3B ∷ 0x20 ∷ 0x49 ∷ 0x30 ∷ 0x37 ∷ 0x37 ∷ 0x36 ∷ 0x41 ∷ 0x43 ∷ 0x20 ∷ 0x30 ∷ 0x20 ∷ 0x43 ∷ 0x20 ∷ 0x37 ∷ 0x46 ∷ 0x38 ∷ 0x30 ∷ 0x30 ∷ 0x30 ∷ 0x30 ∷ 0x30 ∷ 0x20 ∷ 0x30 ∷ 0x20 ∷ 0x31 ∷ 0x0A ∷ []
unfolding by_trial answer found_line line decimal decimal_in float_text hex_word hex_text hex_digit avr_text address_digits marked address_text by_capability address_kind one_of repairs_text slicer_text to_bits of_bits
worked_found = refl

-- it is said, since its location is taken
worked_said : window_line 14 0 answer ≡ found_line 0 answer
unfolding by_trial answer window_line said_number location_number record_number agrees within
worked_said = refl

-- the same by trial 2, which reads the other slicer's bits: `refused 7`
worked_refused : window_line 14 0 (by_trial 2) ≡ 0x72 ∷ 0x65 ∷ 0x66 ∷ 0x75 ∷ 0x73 ∷ 0x65 ∷ 0x64 ∷ 0x20 ∷ 0x37 ∷ 0x0A ∷ []
unfolding by_trial window_line refused_line line decimal decimal_in said_number location_number record_number agrees within
worked_refused = refl

-- a short message, 5D4840D6F8740F
brief : Answer
brief =
    record {
      number = 0;
      location = record { place = record { bit = 15; phase = 3; symbol = 1 }; trial = 1; slicer = Coherent; repairs = None };
      message = 0x5D ∷ 0x48 ∷ 0x40 ∷ 0xD6 ∷ 0xF8 ∷ 0x74 ∷ 0x0F ∷ [];
      cn0 = inf false;
      index = 128;
      fraction = of_bits binary32 0xBF000000;
      undecided = 0;
    }

-- `0 128 BF000000 *5D4840D6F8740F; I4840D6 0 C 7F800000 0 1`
worked_short : found_line 0 brief ≡ 0x30 ∷ 0x20 ∷ 0x31 ∷ 0x32 ∷ 0x38 ∷ 0x20 ∷ 0x42 ∷ 0x46 ∷ 0x30 ∷ 0x30 ∷ 0x30 ∷ 0x30 ∷ 0x30 ∷ 0x30 ∷ 0x20 ∷ 0x2A ∷ 0x35 ∷ 0x44 ∷ 0x34 ∷ 0x38 ∷ 0x34 ∷ 0x30 ∷ 0x44 ∷ 0x36 ∷ 0x46 ∷ 0x38 ∷ 0x37 ∷ 0x34 ∷ 0x30 ∷ 0x46 ∷ 0x3B ∷ 0x20 ∷ 0x49 ∷ 0x34 ∷ 0x38 ∷ 0x34 ∷ 0x30 ∷ 0x44 ∷ 0x36 ∷ 0x20 ∷ 0x30 ∷ 0x20 ∷ 0x43 ∷ 0x20 ∷ 0x37 ∷ 0x46 ∷ 0x38 ∷ 0x30 ∷ 0x30 ∷ 0x30 ∷ 0x30 ∷ 0x30 ∷ 0x20 ∷ 0x30 ∷ 0x20 ∷ 0x31 ∷ 0x0A ∷ []
unfolding brief found_line line decimal decimal_in float_text hex_word hex_text hex_digit avr_text address_digits marked address_text by_capability address_kind one_of repairs_text slicer_text to_bits of_bits
worked_short = refl

-- `1 none`
worked_none : none_line 1 ≡ 0x31 ∷ 0x20 ∷ 0x6E ∷ 0x6F ∷ 0x6E ∷ 0x65 ∷ 0x0A ∷ []
unfolding none_line line decimal decimal_in
worked_none = refl

-- `7FC00000`
nan_text : float_text nan ≡ 0x37 ∷ 0x46 ∷ 0x43 ∷ 0x30 ∷ 0x30 ∷ 0x30 ∷ 0x30 ∷ 0x30 ∷ []
unfolding float_text hex_word hex_text hex_digit to_bits
nan_text = refl

-- `2:3,110`
two_text : repairs_text (Two 3 110) ≡ 0x32 ∷ 0x3A ∷ 0x33 ∷ 0x2C ∷ 0x31 ∷ 0x31 ∷ 0x30 ∷ []
unfolding repairs_text decimal decimal_in
two_text = refl
