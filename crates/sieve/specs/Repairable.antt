-- The places that so many repairs can clear, with the codes of what clears their two remainders.
-- Assumes nothing.
use Rattle.std.specs.Prelude.{ℕ, zero, suc, ◌*◌, min, Bool, true, false, cond, ◌&&◌, ◌||◌, List, [], ◌∷◌, length, ◌==◌, nat_le, slice_index}
use Rattle.annex10.specs.declared.Found.{Found}
use Rattle.annex10.specs.declared.Found.TheVariants.{At, Nothing}
use Rattle.annex10.specs.Repair.{clearing}
use Rattle.repairs.specs.Codes.{code_up_to}
use Rattle.lists.specs.Told.{Told, done, refused}
use Rattle.scan.specs.Sieve.{kept, lane_of, onto}

abbrev pub is_found : Found → Bool
is_found (At ρ) = true
is_found Nothing = false

-- at least one position and at most so many clear the remainder of a message of n bytes
unfoldable pub repairable : ℕ → ℕ → ℕ → Bool
repairable n zero r = false
repairable n (suc level) r = repairable n level r || is_found (clearing n (suc level) r)

-- one of the two remainders of place k
unfoldable pub repairable_at : ℕ → ℕ → List ℕ → List ℕ → ℕ → Bool
repairable_at n level crcs others k = repairable n level (slice_index crcs (lane_of k)) || repairable n level (slice_index others (lane_of k))

-- those of so many places
unfoldable pub repairable_places : ℕ → ℕ → ℕ → List ℕ → List ℕ → List ℕ
repairable_places n level many crcs others = kept (repairable_at n level crcs others) many

-- the codes of the two remainders of each of some places
unfoldable pub code_pairs : ℕ → ℕ → List ℕ → List ℕ → List ℕ → List ℕ
code_pairs n level crcs others [] = []
code_pairs n level crcs others (k ∷ ks) =
    code_up_to n level (slice_index crcs (lane_of k)) ∷ code_up_to n level (slice_index others (lane_of k)) ∷ code_pairs n level crcs others ks

-- the answer, the list, the codes
unfoldable pub repairable_in : ℕ → ℕ → ℕ → List ℕ → List ℕ → List ℕ → List ℕ → Told ℕ × List ℕ × List ℕ
repairable_in n level many crcs others list codes =
    let ks = repairable_places n level many crcs others in
    (done (length ks), onto ks list, onto (code_pairs n level crcs others ks) codes)

abbrev pub refused_in : ℕ → List ℕ → List ℕ → Told ℕ × List ℕ × List ℕ
refused_in number list codes = (refused number, list, codes)

-- with at most as many positions as the level and the kind of message allow; `many` remainders of each slicer, else 2; room for as many
-- places and twice as many codes, else 3; a level above 2: 4
unfoldable pub repairable_into : ℕ → ℕ → ℕ → ℕ → List ℕ → List ℕ → List ℕ → List ℕ → Told ℕ × List ℕ × List ℕ
repairable_into n most many level crcs others list codes =
    cond (length crcs == many && length others == many)
    (cond (length list == many && length codes == 2 * many)
    (cond (nat_le level 2) (repairable_in n (min level most) many crcs others list codes) (refused_in 4 list codes)) (refused_in 3 list codes))
    (refused_in 2 list codes)
