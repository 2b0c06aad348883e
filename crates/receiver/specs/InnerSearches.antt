-- What private functions find in a window that is scanned and in a tray, by what is lent to them.
-- Assumes nothing.
use Rattle.std.specs.Prelude as code
use Rattle.std.specs.Prelude.{Bool, List, ℕ, min, take}
use Rattle.std.proofs.Math.Option.{none}
use Rattle.place.specs.declared.Place.{Place}
use Rattle.place.specs.All.{place_at}
use Rattle.search.specs.declared.Settings.{Settings}
use Rattle.search.specs.declared.Candidate.{Candidate}
use Rattle.search.specs.declared.Answer.{Answer}
use Rattle.search.specs.Choice.{candidate_at}
use Rattle.search.specs.Seen.{seen}
use Rattle.receiver.specs.declared.lent.Scan.{Scan}
use Rattle.receiver.specs.declared.lent.Places.{Places}
use Rattle.receiver.specs.declared.lent.Windows.{Windows}
use Rattle.rows.specs.Tray.{kinds_of, tray_row}
use Rattle.receiver.specs.Inner.{Listing, kind_of, held_of, held_best, over}

-- the surviving reading of a place
abbrev pub read_in : Scan → Settings → Place → code.Option Candidate
read_in w s p = held_of (kind_of w.kind) (candidate_at (kind_of w.kind) s (seen (kind_of w.kind) w.samples.now) p)

-- a list of its places, with the codes of what clears their messages as far as a level asks for it
abbrev pub Lists : Scan → Settings → Places → Type 0
Lists w s p = Listing (kind_of w.kind) (min s.level (kind_of w.kind).most) w.crcs.now w.others.now p.numbers.now p.codes.now p.count

-- the best of them, and the best of all places
abbrev pub best_among : Scan → Settings → Places → code.Option Candidate
best_among w s p =
    held_of (kind_of w.kind) (over (candidate_at (kind_of w.kind) s (seen (kind_of w.kind) w.samples.now)) place_at none (take p.count p.numbers.now))

abbrev pub best_in : Scan → Settings → code.Option Candidate
best_in w s = held_best (kind_of w.kind) w.samples.now s

-- a field of result k of a tray
abbrev pub row_in : {A : Type 0} → (Answer → List A) → Bool → Windows → ℕ → List A
row_in field both w k = tray_row field (kinds_of both) w.samples.now w.s w.indices.now k
