-- A window by starting sample: its bits, and the remainders of its messages. A message that starts with sample p has its bits at p,
-- p + 8, p + 16, ..
-- Assumes nothing.
use Rattle.std.specs.Prelude.{ℕ, ◌+◌, ◌*◌, Bool, cond, ◌&&◌, List, length, ◌==◌, nat_lt, slice_index, Float}
use Rattle.lists.specs.From.{tabulate}
use Rattle.lists.specs.Bits.{as_bit, packed}
use Rattle.annex10.specs.Remainder.{remainder}
use Rattle.place.specs.declared.Slicer.{Slicer}
use Rattle.place.specs.declared.Slicer.TheVariants.{Coherent, Noncoherent}
use Rattle.kernels.specs.Symbols.{sum_from, sums_of}
use Rattle.slicing.specs.Slices.{greater_by}

-- the bit that starts with sample p: the sum of four samples from p on against that from p + 4 on; 0 where there is no second
unfoldable pub start_bit : Slicer → List Float → ℕ → ℕ
start_bit slicer samples p =
    cond (nat_lt (p + 4) 1152) (as_bit (greater_by slicer (sum_from samples p 4) (sum_from samples (p + 4) 4))) 0

unfoldable pub bits_from : Slicer → List Float → List ℕ
bits_from slicer samples = tabulate 1152 (start_bit slicer samples)

-- the n bytes that start with sample p
unfoldable pub message_from : ℕ → List ℕ → ℕ → List ℕ
message_from n bits p = packed n (λ (j : ℕ). slice_index bits (p + 8 * j))

-- the remainder of the message of n bytes that starts with sample 8 + i, and those of the first m
unfoldable pub crc_in : ℕ → List ℕ → ℕ → ℕ
crc_in n bits i = remainder (message_from n bits (8 + i))

unfoldable pub crcs_in : ℕ → List ℕ → ℕ → List ℕ
crcs_in n bits m = tabulate m (crc_in n bits)

-- the memories of a scan are 2,304 sums, 1,152 bits and so many remainders of each slicer long
unfoldable pub room_for : ℕ → List Float → List ℕ → List ℕ → List ℕ → List ℕ → Bool
room_for many sums coherent noncoherent crcs others =
    (length sums == 2304) && length coherent == 1152 && length noncoherent == 1152 && length crcs == many && length others == many

-- what a scan for messages of n bytes at so many starting samples answers, and what stands in the five memories then: 2,310 numbers,
-- else 2; room, else 3
unfoldable pub scanned : ℕ → ℕ → List Float → List Float → List ℕ → List ℕ → List ℕ → List ℕ → ℕ × List Float × List ℕ × List ℕ × List ℕ × List ℕ
scanned n many samples sums coherent noncoherent crcs others =
    cond (length samples == 2310)
    (cond (room_for many sums coherent noncoherent crcs others)
    (0, sums_of samples, bits_from Coherent samples, bits_from Noncoherent samples, crcs_in n (bits_from Coherent samples) many, crcs_in n (bits_from Noncoherent samples) many)
    (3, sums, coherent, noncoherent, crcs, others))
    (2, sums, coherent, noncoherent, crcs, others)

-- the same for messages of 14 bytes and of 7 in one scan, with seven memories
unfoldable pub scanned_both : List Float → List Float → List ℕ → List ℕ → List ℕ → List ℕ → List ℕ → List ℕ
    → ℕ × List Float × List ℕ × List ℕ × List ℕ × List ℕ × List ℕ × List ℕ
scanned_both samples sums coherent noncoherent crcs others short_crcs short_others =
    cond (length samples == 2310)
    (cond (room_for 248 sums coherent noncoherent crcs others && length short_crcs == 696 && length short_others == 696) (
      0,
      sums_of samples,
      bits_from Coherent samples,
      bits_from Noncoherent samples,
      crcs_in 14 (bits_from Coherent samples) 248,
      crcs_in 14 (bits_from Noncoherent samples) 248,
      crcs_in 7 (bits_from Coherent samples) 696,
      crcs_in 7 (bits_from Noncoherent samples) 696,
    )
    (3, sums, coherent, noncoherent, crcs, others, short_crcs, short_others))
    (2, sums, coherent, noncoherent, crcs, others, short_crcs, short_others)
