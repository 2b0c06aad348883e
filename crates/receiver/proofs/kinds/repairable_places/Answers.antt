-- `receiver::kinds::repairable_places` meets its contract. Assumes nothing.
use mathlib.Core.Path.{◌∙◌}
use mathlib.Core.Logic.{∥∥₁_elim}
use Rattle.std.proofs.Props.{props}
use Rattle.annex10.proofs.Length.{kind_small}
use Rattle.sieve.proofs.Picking.{most_few}
use Rattle.sieve.proofs.Lent.{sieved_whole}
use Rattle.receiver.proofs.EitherKind.{kind_bytes, kind_last, kind_most}
use Rattle.receiver.proofs.kinds.repairable_places.Goals as goal

pub returns : goal.returns
returns c =
    let k = c.args.scan.now.kind in
    ∥∥₁_elim c.args.hash.hashed (hlevel props)
    (λ h. rw (kind_bytes k, kind_last k, kind_most k) (c.find_repairable.ensures ∙ sieved_whole _ _ _ _ _ _ _ _ _ _ (kind_small k) (most_few k) h))
