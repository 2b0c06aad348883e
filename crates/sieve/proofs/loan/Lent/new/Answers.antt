-- `sieve::loan::Lent::new` meets its contract. Assumes nothing.
use Rattle.std.proofs.Common.{inl, inr, sym, refl, arith}
use Rattle.sieve.proofs.Asking.{fits_none, fits_all, fits_not, asked_own}
use Rattle.sieve.proofs.loan.Lent.new.Goals as goal
use Rattle.sieve.proofs.loan.Lent.new.Goals.{in_default-via-in-0+in_default, in_default-via-in-2688+in_default, in_default-via-in_default}

pub returns-in-0-eq0 : goal.returns-in-0-eq0
returns-in-0-eq0 c =
    let a = c.args in
    let w = c.in-0-eq0 in
    (fits_none a.displacements.now a.owners.now w.is-0 w.is-1, λ level crcs. sym (asked_own level a.displacements.now a.owners.now (omega (arith, w.is-1)) crcs))

pub returns-in-2688-eq8704 : goal.returns-in-2688-eq8704
returns-in-2688-eq8704 c =
    let a = c.args in
    let w = c.in-2688-eq8704 in
    (fits_all a.displacements.now a.owners.now w.is-0 w.is-1, λ level crcs. refl)

pub returns-in_default : goal.returns-in_default
returns-in_default c =
    let a = c.args in
    elim c.in_default.branch [
      | in_default-via-in-0+in_default w ↦
          let h = w.in_default in
          (refl, fits_not a.displacements.now a.owners.now (inr (h.is-0, h.is-1.1)) (inl (omega (arith, h.is-0))))
      | in_default-via-in-2688+in_default w ↦
          let h = w.in_default in
          (refl, fits_not a.displacements.now a.owners.now (inl (omega (arith, h.is-0))) (inr (h.is-0, h.is-1.1)))
      | in_default-via-in_default w ↦
          let h = w.in_default.is-0 in
          (refl, fits_not a.displacements.now a.owners.now (inl h.0.1) (inl h.1))
    ]
