-- `receiver::tray::fill` meets its contract. Assumes nothing.
use mathlib.Core.Path.{◌≡◌}
use lib.ListN.{length}
use Rattle.rows.specs.Rows.{result_of, numbers_of}
use Rattle.rows.specs.Tray.{kinds_of, message_of, bytes_in, words_in, floats_in}
use Rattle.rows.proofs.Beside.{Beside}
use Rattle.receiver.specs.InnerSearches.{row_in}
use Rattle.receiver.proofs.tray.fill.Given as goal

abbrev pub invariant-loop-k : goal.invariant-loop-k
invariant-loop-k l = (length l.sums ≡ 2304) × Beside (bytes_in (kinds_of l.both)) (row_in message_of l.both l.w) l.w.n l.messages l.k
    × Beside (words_in (kinds_of l.both)) (row_in result_of l.both l.w) l.w.n l.words l.k
    × Beside (floats_in (kinds_of l.both)) (row_in numbers_of l.both l.w) l.w.n l.floats l.k
