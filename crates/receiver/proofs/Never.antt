-- A call that is never refused: what it answers has a value, whatever stands in for a refusal.
-- Assumes nothing.
use Rattle.std.specs.Prelude as code
use Rattle.std.specs.Result.{result_unwrap_or}
use mathlib.Core.Path.{◌≡◌, ◌∙◌}
use Rattle.lists.specs.Told.{done}
use Rattle.lists.proofs.Telling.{same_values, not_done}
use Rattle.refusals.specs.declared.Refusal.{Refusal}
use Rattle.refusals.specs.Refusals.{told}

pub unwrapped : {A : Type 0} (r : code.Result A Refusal) (d : A) {x v : A} → x ≡ result_unwrap_or r d → told r ≡ done v → x ≡ v
unwrapped (code.Ok y) d f e = f ∙ same_values e
unwrapped (code.Err n) d f e = absurd (not_done e)
