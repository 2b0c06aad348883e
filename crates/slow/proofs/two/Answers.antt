-- `slow::two` meets its contract. The loop: no pair whose second position is before k clears the message. Assumes nothing.
use mathlib.Core.Path.{◌≡◌, sym, ap, ◌∙◌}
use Prim.Native.Nat.{ℕ, ◌*◌}
use native.Mathlib.Omega.{arith}
use lib.ListN.{length}
use Rattle.annex10.specs.declared.Repairs.TheVariants.{Two}
use Rattle.annex10.specs.Repair.{seek, choose}
use Rattle.annex10.specs.Mend.{tried}
use Rattle.annex10.proofs.Mending.{seek_more, seek_here}
use Rattle.slow.proofs.two.Goals as goal

pub returns-in-At : goal.returns-in-At
unfolding choose
returns-in-At c = let m = c.args.message.now in
    let l = c.loop-k in
    sym (seek_here (λ (k : ℕ). seek (λ j. tried m (Two j k)) k) (8 * length m) l.k c.loop-k-test.true l.invariant (sym c.two_with.ensures ∙ c.in-At.is))

pub loop-k-preserved : goal.loop-k-preserved
loop-k-preserved c = let m = c.args.message.now in
    let l = c.loop-k in
    seek_more (λ (k : ℕ). seek (λ j. tried m (Two j k)) k) l.k l.invariant (sym c.two_with.ensures ∙ c.in_default.is)

pub returns : goal.returns
unfolding choose
returns c = let m = c.args.message.now in
    let l = c.loop-k in
    let z : 8 * length m ≡ l.k = omega (arith, c.loop-k-test.false) in
    sym (ap (seek (λ (k : ℕ). seek (λ j. tried m (Two j k)) k)) z ∙ l.invariant)
