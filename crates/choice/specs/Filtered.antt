-- What `filter_out_decode_candidate` answers.
-- Assumes nothing.
use Rattle.std.specs.Prelude.{Bool, ℕ}
use Rattle.lists.specs.Told.{Told, tell}
use Rattle.place.specs.Agrees.{location_number}
use Rattle.search.specs.declared.Settings.{Settings}
use Rattle.search.specs.declared.Candidate.{Candidate}
use Rattle.search.specs.Choice.{dropped}
use Rattle.search.specs.Answers.{or_number, settings_number}

-- whether a candidate is dropped, at a place where the slicers differ in so many bits; settings that no search takes are refused, and
-- then a location that is not taken
unfoldable pub filtered_of : Settings → ℕ → Candidate → Told Bool
filtered_of s differing c = tell (or_number (settings_number s) (location_number 14 c.location)) (dropped s differing c)
