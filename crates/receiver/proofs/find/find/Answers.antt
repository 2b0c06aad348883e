-- `receiver::find::find` meets its contract. The loop's invariant: what is held is the best of the first q places of the list.
-- Assumes nothing.
use mathlib.Core.Path.{◌≡◌, sym, ap, ◌∙◌, subst}
use mathlib.Core.Bool.{true}
use mathlib.Core.Option.{none}
use Prim.Native.Nat.{ℕ, ◌+◌, ◌*◌, ◌<◌, min}
use native.Mathlib.Omega.{arith}
use lib.ListN.{get_or, take}
use Rattle.place.specs.declared.Place.{Place}
use Rattle.place.specs.All.{listed, place_at}
use Rattle.place.proofs.All.{listed_at}
use Rattle.search.specs.Choice.{candidate_at}
use Rattle.search.specs.Seen.{seen}
use Rattle.receiver.specs.Inner.{kind_of, held_of, chosen_of, over}
use Rattle.receiver.proofs.EitherKind.{right}
use Rattle.receiver.proofs.Counted.{read_taken, read_counted}
use Rattle.receiver.proofs.Finding.{symbols_there}
use Rattle.receiver.proofs.Listed.{found_none, found_more, listed_finds}
use Rattle.receiver.proofs.find.find.Goals as goal

pub loop-q-init : goal.loop-q-init
loop-q-init c =
    let s = c.args in
    ap (held_of (kind_of s.scan.now.kind)) (found_none (candidate_at (kind_of s.scan.now.kind) s.s (seen (kind_of s.scan.now.kind) s.scan.now.samples.now)) s.places.now.numbers.now)

pub place_at-place-requires : goal.place_at-place-requires
place_at-place-requires c =
    let l = c.loop-q in
    rw c.from.ensures (c.requires.1.low l.q (omega (arith, c.loop-q-test.true)))

pub read_at-new-requires : goal.read_at-new-requires
read_at-new-requires c =
    let l = c.loop-q in
    let h : l.q < c.args.places.now.count = omega (arith, c.loop-q-test.true) in
    let e = c.place_at-place.ensures ∙ ap place_at c.from.ensures in
    let k = get_or c.args.places.now.numbers.now l.q 0 in (
      c.requires.0,
      subst (λ (p : Place). listed (kind_of c.args.scan.now.kind).last p ≡ true) (sym e) (listed_at (kind_of c.args.scan.now.kind).last k (c.requires.1.low l.q h)),
      c.requires.2,
      listed_finds (kind_of c.args.scan.now.kind) (min c.args.s.level (kind_of c.args.scan.now.kind).most) c.args.scan.now.crcs.now (get_or c.args.places.now.codes.now (2 * l.q) 0) k e (c.requires.1.first l.q h),
      listed_finds (kind_of c.args.scan.now.kind) (min c.args.s.level (kind_of c.args.scan.now.kind).most) c.args.scan.now.others.now (get_or c.args.places.now.codes.now (2 * l.q + 1) 0) k e (c.requires.1.second l.q h),
    )

pub hold-held-requires : goal.hold-held-requires
hold-held-requires c =
    let l = c.loop-q in
    let h : l.q < c.args.places.now.count = omega (arith, c.loop-q-test.true) in
    let a = c.args in
    let k = kind_of a.scan.now.kind in
    let t = subst (λ (p : Place). listed k.last p ≡ true) (sym (c.place_at-place.ensures ∙ ap place_at c.from.ensures)) (listed_at k.last (get_or a.places.now.numbers.now l.q 0) (c.requires.1.low l.q h)) in
    (symbols_there c.args.scan.now.samples.now c.requires.0, read_taken k (right a.scan.now.kind) a.scan.now.samples.now a.symbols.now c.requires.0 _ t a.s c.read_at-new.ensures)

pub loop-q-preserved : goal.loop-q-preserved
loop-q-preserved c =
    let l = c.loop-q in
    let a = c.args in
    let h : l.q < a.places.now.count = omega (arith, c.loop-q-test.true) in
    let k = kind_of a.scan.now.kind in
    let f = candidate_at k a.s (seen k a.scan.now.samples.now) in
    let e = c.place_at-place.ensures ∙ ap place_at c.from.ensures in
    let p = c.place_at-place.result in
    let t = subst (λ (p : Place). listed k.last p ≡ true) (sym e) (listed_at k.last (get_or a.places.now.numbers.now l.q 0) (c.requires.1.low l.q h)) in
    found_more k f a.places.now.numbers.now l.q (omega (arith, c.requires.1.few, c.requires.1.places)) l.invariant (ap (λ (p : Place). held_of k (f p)) e)
    (c.hold-held.ensures ∙ ap (chosen_of l.held) (read_counted k (right a.scan.now.kind) a.scan.now.samples.now a.symbols.now c.requires.0 p t a.s c.read_at-new.ensures))

pub returns : goal.returns
returns c =
    let l = c.loop-q in
    let s = c.args in
    let e : l.q ≡ s.places.now.count = omega arith in
    l.invariant ∙ ap (λ (n : ℕ). held_of (kind_of s.scan.now.kind) (over (candidate_at (kind_of s.scan.now.kind) s.s (seen (kind_of s.scan.now.kind) s.scan.now.samples.now)) place_at none (take n s.places.now.numbers.now))) e
