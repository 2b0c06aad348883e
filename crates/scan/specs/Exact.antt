-- What `list_exact` answers.
-- Assumes nothing.
use Rattle.std.specs.Prelude.{ℕ, ◌+◌, ◌*◌, Bool, cond, ◌&&◌, ◌||◌, List, length, ◌==◌, slice_index}
use Rattle.lists.specs.Told.{Told, done, refused}
use Rattle.annex10.specs.declared.MessageKind.{MessageKind}
use Rattle.annex10.specs.declared.MessageKind.TheVariants.{Short, Long}
use Rattle.scan.specs.Sieve.{kept, lane_of, onto}

-- the bit of a message that is set in every header that is taken: of long messages (formats 17 and 18) the first, of short ones (format
-- 11) the second
abbrev pub lead_of : MessageKind → ℕ
lead_of Short = 1
lead_of Long = 0

-- remainder i of a slicer is 0, and bit `lead` of its message is 1
unfoldable pub clean_at : ℕ → List ℕ → List ℕ → ℕ → Bool
clean_at lead bits crcs i = slice_index crcs i == 0 && slice_index bits (8 + i + 8 * lead) == 1

-- place k is so for one of the slicers
unfoldable pub exact : ℕ → List ℕ → List ℕ → List ℕ → List ℕ → ℕ → Bool
exact lead coherent noncoherent crcs others k = clean_at lead coherent crcs (lane_of k) || clean_at lead noncoherent others (lane_of k)

-- the list of some numbers, and the memory of a list then
abbrev pub list_of : List ℕ → List ℕ → Told ℕ × List ℕ
list_of ks list = (done (length ks), onto ks list)

abbrev pub refused_list : ℕ → List ℕ → Told ℕ × List ℕ
refused_list n list = (refused n, list)

-- 1,152 bits and so many remainders of each slicer, else 2; as many numbers for the list, else 3
unfoldable pub exact_into : ℕ → ℕ → List ℕ → List ℕ → List ℕ → List ℕ → List ℕ → Told ℕ × List ℕ
exact_into lead many coherent noncoherent crcs others list =
    cond (length coherent == 1152 && length noncoherent == 1152 && length crcs == many && length others == many)
    (cond (length list == many) (list_of (kept (exact lead coherent noncoherent crcs others) many) list)
    (refused_list 3 list))
    (refused_list 2 list)
