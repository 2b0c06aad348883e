-- `receiver::window::best_by_trial` meets its contract: the list of all places is searched. Assumes nothing.
use mathlib.Core.Path.{ap, ◌∙◌}
use Prim.Native.Nat.{ℕ, ◌*◌, min}
use native.Mathlib.Omega.{arith}
use lib.ListN.{length}
use Rattle.lists.specs.From.{tabulate}
use Rattle.lists.proofs.Table.{length_tabulate}
use Rattle.receiver.specs.Inner.{kind_of}
use Rattle.receiver.proofs.EitherKind.{right}
use Rattle.receiver.proofs.Finding.{scanned_sizes}
use Rattle.receiver.proofs.Weighing.{level_low}
use Rattle.receiver.proofs.ByTrial.{all_listing, all_searched}
use Rattle.receiver.proofs.window.best_by_trial.Goals as goal

pub list_all-requires : goal.list_all-requires
list_all-requires c = let r = right c.args.scan.now.kind in omega (arith, c.requires.1, r.last, r.low)

pub try_all-requires : goal.try_all-requires
try_all-requires c =
    let z = scanned_sizes _ _ _ _ _ _ c.args.scan.now.scanned in
    (z.first, z.second, level_low c.args.s c.requires.0, c.requires.2)

pub invariant_of-places : goal.invariant_of-places
invariant_of-places c =
    let a = c.args in
    let w = a.scan.now in
    let r = right w.kind in
    let k = kind_of w.kind in
    let list = c.list_all.ensures ∙ ap (λ (n : ℕ). tabulate n (λ (i : ℕ). i)) c.requires.1 in
    let l = all_listing k r w.samples.now _ _ _ _ w.scanned (min a.s.level k.most) list c.try_all.ensures (ap length list ∙ length_tabulate (8 * k.last) (λ (i : ℕ). i)) in
    record { few = omega (arith, l.few, r.last, r.low); numbered = omega (arith, l.few, l.places); coded = omega (arith, l.few, l.many) }

pub best_listed-requires : goal.best_listed-requires
best_listed-requires c =
    let a = c.args in
    let w = a.scan.now in
    let k = kind_of w.kind in
    let list = c.list_all.ensures ∙ ap (λ (n : ℕ). tabulate n (λ (i : ℕ). i)) c.requires.1 in
    (all_listing k (right w.kind) w.samples.now _ _ _ _ w.scanned (min a.s.level k.most) list c.try_all.ensures (ap length list ∙ length_tabulate (8 * k.last) (λ (i : ℕ). i)), c.requires.0)

pub returns : goal.returns
returns c =
    let a = c.args in
    let w = a.scan.now in
    let k = kind_of w.kind in
    let list = c.list_all.ensures ∙ ap (λ (n : ℕ). tabulate n (λ (i : ℕ). i)) c.requires.1 in
    all_searched k w.samples.now a.s list (ap length list ∙ length_tabulate (8 * k.last) (λ (i : ℕ). i)) c.best_listed.ensures
