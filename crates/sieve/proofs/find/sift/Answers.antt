-- `sieve::find::sift` meets its contract. Assumes nothing.
use Rattle.std.proofs.Common.{◌≡◌, ℕ, List, map, arith}
use Rattle.sieve.specs.Hash.{asks}
use Rattle.sieve.specs.InnerLent.{asked_by}
use Rattle.sieve.proofs.Picking.{sifted}
use Rattle.sieve.proofs.Asking.{asked_one, asked_two, sifted_part}
use Rattle.sieve.proofs.find.sift.Goals as goal

pub returns-in-Some : goal.returns-in-Some
returns-in-Some c =
    let a = c.args in
    let l = c.in-Some.lent in
    let h = c.one in
    let s = h.result in
    let e : (xs : List ℕ) → asked_by a.lent a.level xs ≡ map (asks s.shape s.displacements.now s.owners.now) xs
    = λ xs. rw (c.in-Some.is, h.ensures.shape, h.ensures.displacements, h.ensures.owners) (asked_one a.level l.displacements.now l.owners.now l.all_owners c.if-level-eq1.true xs) in
    let w = c.sift_in.ensures in
    sifted_part a.level _ a.crcs.now a.others.now _ _ _ _ _ s.shape s.displacements.now s.owners.now (e a.crcs.now) (e a.others.now) w.0 w.1 w.2 w.3

pub returns-in-Some-2 : goal.returns-in-Some-2
returns-in-Some-2 c =
    let a = c.args in
    let l = c.in-Some-2.lent in
    let h = c.two in
    let s = h.result in
    let e : (xs : List ℕ) → asked_by a.lent a.level xs ≡ map (asks s.shape s.displacements.now s.owners.now) xs
    = λ xs. rw (c.in-Some-2.is, h.ensures.shape, h.ensures.displacements, h.ensures.owners) (asked_two a.level l.displacements.now l.owners.now l.all_owners c.if-level-eq1.false xs) in
    let w = c.sift_in-in-Some-2.ensures in
    sifted_part a.level _ a.crcs.now a.others.now _ _ _ _ _ s.shape s.displacements.now s.owners.now (e a.crcs.now) (e a.others.now) w.0 w.1 w.2 w.3

pub returns-in-None : goal.returns-in-None
returns-in-None c =
    let w = c.sift_in-in-None.ensures in
    rw (c.in-None.is, c.if-level-eq1-2.true) (sifted 1 _ _ _ _ _ _ _ _ _ c.one-in-None.ensures w.0 w.1 w.2 w.3)

pub returns-in-None-2 : goal.returns-in-None-2
returns-in-None-2 c =
    let w = c.sift_in-in-None-2.ensures in
    let e : c.args.level ≡ 2 = omega arith in
    rw (c.in-None.is, e) (sifted 2 _ _ _ _ _ _ _ _ _ c.two-in-None-2.ensures w.0 w.1 w.2 w.3)
