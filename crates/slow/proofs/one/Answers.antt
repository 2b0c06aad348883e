-- `slow::one` meets its contract. The loop: none of the first j positions clears the message. Assumes nothing.
use mathlib.Core.Path.{◌≡◌, sym, ap, ◌∙◌}
use Prim.Native.Nat.{ℕ, ◌*◌}
use native.Mathlib.Omega.{arith}
use lib.ListN.{length}
use Rattle.annex10.specs.declared.Repairs.TheVariants.{One}
use Rattle.annex10.specs.Repair.{seek, choose}
use Rattle.annex10.specs.Mend.{tried}
use Rattle.annex10.proofs.Mending.{seek_more, seek_here}
use Rattle.slow.proofs.Trial.{clears_it, leaves_it}
use Rattle.slow.proofs.one.Goals as goal

pub returns-then-clears : goal.returns-then-clears
unfolding choose
returns-then-clears c = let m = c.args.message.now in
    let l = c.loop-j in
    sym (seek_here (λ (i : ℕ). tried m (One i)) (8 * length m) l.j c.loop-j-test.true l.invariant (clears_it m (One l.j) c.clears.ensures c.if-clears.true))

pub loop-j-preserved : goal.loop-j-preserved
loop-j-preserved c = let m = c.args.message.now in
    let l = c.loop-j in
    seek_more (λ (i : ℕ). tried m (One i)) l.j l.invariant (leaves_it m (One l.j) c.clears.ensures c.if-clears.false)

pub returns : goal.returns
unfolding choose
returns c = let m = c.args.message.now in
    let l = c.loop-j in
    let z : 8 * length m ≡ l.j = omega (arith, c.loop-j-test.false) in
    sym (ap (seek (λ (i : ℕ). tried m (One i))) z ∙ l.invariant)
