-- `sieve::loan::Lent::name_one` meets its contract. Assumes nothing.
use Rattle.std.proofs.Common.{◌≡◌, length, ap, ◌∙◌, arith, length-take-le}
use Rattle.sieve.proofs.loan.Lent.name_one.Goals as goal

pub bounds-self-slot : goal.bounds-self-slot
bounds-self-slot c =
    let s = c.args.self.now in
    let h = c.one-hash in
    let e : length h.result.owners.now ≡ 512 = ap length h.ensures.owners ∙ length-take-le 512 s.owners.now (omega (arith, s.all_owners)) in
    omega (arith, s.all_displacements, c.slot.ensures.there)
