-- `receiver::subsample::later` meets its contract: the step is never refused.
-- Assumes nothing.
use mathlib.Core.Path.{◌≡◌, sym, ◌∙◌, subst}
use Rattle.place.specs.declared.location.Location.{Location}
use Rattle.place.specs.Agrees.{location_number}
use Rattle.receiver.specs.Inner.{kind_of}
use Rattle.receiver.proofs.Never.{unwrapped}
use Rattle.receiver.proofs.EitherKind.{right}
use Rattle.receiver.proofs.Prompting.{later_is, on_taken}
use Rattle.receiver.proofs.subsample.later.Goals as goal

pub returns : goal.returns
returns c =
    let a = c.args in
    let k = kind_of a.kind in
    let q = unwrapped _ _ c.unwrap_or.ensures (c.step_on.ensures ∙ later_is k (right a.kind) a.location c.requires.0 c.requires.1) in
    (q, subst (λ (x : Location). location_number k.bytes x ≡ 0) (sym q) (on_taken k (right a.kind) a.location c.requires.0 c.requires.1))
