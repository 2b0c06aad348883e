-- What private functions compute, and what those of programs ask for: no public contract cites it.
-- Assumes nothing.
use Rattle.std.specs.Prelude.{◌≡◌, List, ℕ, length, Result, Ok, Err}
use Rattle.refusals.specs.declared.Refusal.{Refusal}
use Rattle.feed.specs.declared.Said.{Said}
use Rattle.feed.specs.declared.Said.TheVariants.{Nothing, Head, Window, Refused}
use Rattle.feed.specs.declared.Fed.{Fed}
use Rattle.feed.specs.Machine.{refuses_with}

-- where a window is told, its samples came whole
abbrev pub Whole : Said → List ℕ → Type 0
Whole Nothing part = Unit {0}
Whole (Head n) part = Unit {0}
Whole (Window w) part = length part ≡ 9240
Whole (Refused e) part = Unit {0}

-- what becomes of a state, or a refusal
abbrev pub settled : Result Fed Refusal → Fed
settled (Ok fed) = fed
settled (Err e) = refuses_with e
