-- The answers of the probes, flat: number 0 with the value, or a refusal's number with 0.
-- Assumes nothing.
use Rattle.std.specs.Prelude.{Bool, cond, List, ℕ, eqb, length, Float}
use Rattle.std.proofs.Math.Option.{none, some}
use Rattle.lists.specs.Bits.{as_bit}
use Rattle.lists.specs.Told.{Told, refused, and_then}
use Rattle.floats.specs.Numbers.{zero_f}
use Rattle.annex10.specs.Header.{long_header}
use Rattle.annex10.specs.declared.Repairs.{Repairs}
use Rattle.annex10.specs.declared.Repairs.TheVariants.{None, One, Two}
use Rattle.annex10.specs.declared.Found.{Found}
use Rattle.annex10.specs.declared.Found.TheVariants.{At, Nothing}
use Rattle.place.specs.declared.Slicer.{Slicer}
use Rattle.place.specs.declared.Slicer.TheVariants.{Coherent, Noncoherent}
use Rattle.mode_s.specs.Counted.{counted_repairs}
use Rattle.streams.specs.Headers.{validity_at}
use Rattle.probes.specs.declared.samples.FlatPower.{FlatPower}
use Rattle.probes.specs.declared.bits.FlatNumber.{FlatNumber}
use Rattle.probes.specs.declared.tables.FlatFound.{FlatFound}

abbrev pub flat_power : Told Float → FlatPower
flat_power (n, some p) = record { number = n; power = p }
flat_power (n, none) = record { number = n; power = zero_f }

abbrev pub flat_number : Told ℕ → FlatNumber
flat_number (n, some v) = record { number = n; value = v }
flat_number (n, none) = record { number = n; value = 0 }

-- 1 for yes
abbrev pub flat_truth : Told Bool → FlatNumber
flat_truth (n, some t) = record { number = n; value = as_bit t }
flat_truth (n, none) = record { number = n; value = 0 }

-- who made the bits, by whether it was the noncoherent slicer
abbrev pub slicer_by : Bool → Slicer
slicer_by noncoherent = cond noncoherent Noncoherent Coherent

-- the header of the message at a bit offset, with `count` positions repaired: a stream has 18 bytes, else 2, before 4 for the count
unfoldable pub counted_validity : List ℕ → ℕ → ℕ → ℕ → ℕ → Told Bool
counted_validity bytes offset count j k = cond (eqb (length bytes) 18) (and_then (counted_repairs count j k) (validity_at 14 long_header bytes offset)) (refused 2)

-- the count and the positions, zeros where there are none
abbrev pub flat_repairs : Repairs → FlatFound
flat_repairs None = record { found = 1; count = 0; first = 0; second = 0 }
flat_repairs (One j) = record { found = 1; count = 1; first = j; second = 0 }
flat_repairs (Two j k) = record { found = 1; count = 2; first = j; second = k }

-- zeros where nothing is found
abbrev pub flat_found : Found → FlatFound
flat_found (At ρ) = flat_repairs ρ
flat_found Nothing = record { found = 0; count = 0; first = 0; second = 0 }
