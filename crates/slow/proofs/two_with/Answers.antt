-- `slow::two_with` meets its contract. The loop: none of the first j positions clears the message with k. Assumes nothing.
use mathlib.Core.Path.{sym}
use Prim.Native.Nat.{ℕ}
use Rattle.annex10.specs.declared.Repairs.TheVariants.{Two}
use Rattle.annex10.specs.Mend.{tried}
use Rattle.annex10.proofs.Mending.{seek_more, seek_here}
use Rattle.slow.proofs.Trial.{clears_it, leaves_it}
use Rattle.slow.proofs.two_with.Goals as goal

pub returns-then-clears : goal.returns-then-clears
returns-then-clears c = let m = c.args.message.now in
    let l = c.loop-j in
    sym (seek_here (λ (i : ℕ). tried m (Two i c.args.k)) c.args.k l.j c.loop-j-test.true l.invariant (clears_it m (Two l.j c.args.k) c.clears.ensures c.if-clears.true))

pub loop-j-preserved : goal.loop-j-preserved
loop-j-preserved c = let m = c.args.message.now in
    let l = c.loop-j in
    seek_more (λ (i : ℕ). tried m (Two i c.args.k)) l.j l.invariant (leaves_it m (Two l.j c.args.k) c.clears.ensures c.if-clears.false)
