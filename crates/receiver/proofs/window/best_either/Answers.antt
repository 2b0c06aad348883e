-- `receiver::window::best_either` meets its contract. Assumes nothing.
use mathlib.Core.Path.{ap, ◌∙◌}
use Prim.Native.Nat.{◌*◌}
use lib.ListN.{length, length-replicate}
use Rattle.receiver.specs.Inner.{kind_of}
use Rattle.receiver.proofs.window.best_either.Goals as goal

pub best_by_trial-requires : goal.best_by_trial-requires
best_by_trial-requires c =
    let p = c.requires in
    (p.0, p.1, ap length p.2 ∙ length-replicate (16 * (kind_of c.args.scan.now.kind).last) 0)
