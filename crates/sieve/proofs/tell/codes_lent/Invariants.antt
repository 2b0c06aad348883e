-- `sieve::tell::codes_lent` meets its contract. The loop: the first i codes are stored, and `code` is that of the remainder `last`. Assumes nothing.
use Rattle.std.proofs.Common.{◌≡◌, ℕ, length, get_or}
use Rattle.lists.proofs.Table.{Done}
use Rattle.annex10.specs.Length.{message_bytes}
use Rattle.repairs.specs.Codes.{code_up_to}
use Rattle.sieve.proofs.tell.codes_lent.Given as goal

abbrev pub invariant-loop-i : goal.invariant-loop-i
invariant-loop-i l = Done 0 (λ (k : ℕ). code_up_to (message_bytes l.kind) l.level (get_or l.crcs k 0)) (length l.crcs) l.codes l.i × (l.code ≡ code_up_to (message_bytes l.kind) l.level l.last)
