-- `receiver::tray::step` meets its contract. Assumes nothing.
use mathlib.Core.Path.{ap, ◌∙◌}
use Prim.Native.Nat.{ℕ, ◌*◌}
use Rattle.search.specs.Kinds.{long, short}
use Rattle.rows.specs.Tray.{kinds_of, bytes_in}
use Rattle.receiver.proofs.Traying.{sizes_long, sizes_both}
use Rattle.receiver.proofs.tray.step.Goals as goal

pub step_both-requires : goal.step_both-requires
step_both-requires c =
    let p = c.requires in
    let z = sizes_both c.if-both.true in
    let n = c.args.w.now.n in
    (p.0, p.1, p.2 ∙ ap (λ (w : ℕ). w * n) z.0, p.3 ∙ ap (λ (w : ℕ). w * n) z.1, p.4 ∙ ap (λ (w : ℕ). w * n) z.2)

pub returns-then-both : goal.returns-then-both
unfolding kinds_of bytes_in long short
returns-then-both c = rw c.if-both.true c.step_both.ensures

pub step_long-requires : goal.step_long-requires
step_long-requires c =
    let p = c.requires in
    let z = sizes_long c.if-both.false in
    let n = c.args.w.now.n in
    (p.0, p.1, p.2 ∙ ap (λ (w : ℕ). w * n) z.0, p.3 ∙ ap (λ (w : ℕ). w * n) z.1, p.4 ∙ ap (λ (w : ℕ). w * n) z.2)

pub returns-else-both : goal.returns-else-both
unfolding kinds_of bytes_in long
returns-else-both c = rw c.if-both.false c.step_long.ensures
