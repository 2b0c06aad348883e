-- `receiver::window::exact_best` meets its contract: a place that is not listed holds nothing without repairs. Assumes nothing.
use mathlib.Core.Path.{refl}
use native.Mathlib.Omega.{arith}
use Rattle.search.proofs.Staging.{at_level}
use Rattle.scan.specs.Exact.{lead_of}
use Rattle.receiver.specs.Inner.{kind_of}
use Rattle.receiver.proofs.EitherKind.{right, led}
use Rattle.receiver.proofs.Stages.{exact_front, exact_listing, exact_best, no_repairs, first_settings}
use Rattle.receiver.proofs.Listed.{nothing_listed}
use Rattle.receiver.proofs.window.exact_best.Goals as goal

pub returns-then-count-eq0 : goal.returns-then-count-eq0
returns-then-count-eq0 c =
    let a = c.args in
    let w = a.scan.now in
    let k = w.kind in
    let f = exact_front (kind_of k) (right k) (lead_of k) (led k) w.samples.now _ _ _ _ w.scanned a.list.now c.exact_places.result c.requires.1 c.exact_places.ensures c.unwrap_or-count.ensures in
    (exact_best (kind_of k) (right k) (lead_of k) (led k) w.samples.now _ _ _ _ w.scanned (at_level 0 a.s) refl f (nothing_listed _ _ _ c.if-count-eq0.true), f.size)

pub invariant_of-places : goal.invariant_of-places
invariant_of-places c =
    let a = c.args in
    let w = a.scan.now in
    let k = w.kind in
    let r = right k in
    let f = exact_front (kind_of k) r (lead_of k) (led k) w.samples.now _ _ _ _ w.scanned a.list.now c.exact_places.result c.requires.1 c.exact_places.ensures c.unwrap_or-count.ensures in
    let l = exact_listing (kind_of k) r (lead_of k) (led k) w.samples.now _ _ _ _ w.scanned f c.requires.2 (no_repairs (kind_of k) a.s) in
    record { few = omega (arith, l.few, r.last, r.low); numbered = omega (arith, l.few, l.places); coded = omega (arith, l.few, l.many) }

pub best_listed-requires : goal.best_listed-requires
best_listed-requires c =
    let a = c.args in
    let w = a.scan.now in
    let k = w.kind in
    let f = exact_front (kind_of k) (right k) (lead_of k) (led k) w.samples.now _ _ _ _ w.scanned a.list.now c.exact_places.result c.requires.1 c.exact_places.ensures c.unwrap_or-count.ensures in
    (exact_listing (kind_of k) (right k) (lead_of k) (led k) w.samples.now _ _ _ _ w.scanned f c.requires.2 (no_repairs (kind_of k) a.s), first_settings a.s c.requires.0)

pub returns : goal.returns
returns c =
    let a = c.args in
    let w = a.scan.now in
    let k = w.kind in
    let f = exact_front (kind_of k) (right k) (lead_of k) (led k) w.samples.now _ _ _ _ w.scanned a.list.now c.exact_places.result c.requires.1 c.exact_places.ensures c.unwrap_or-count.ensures in
    (exact_best (kind_of k) (right k) (lead_of k) (led k) w.samples.now _ _ _ _ w.scanned (at_level 0 a.s) refl f c.best_listed.ensures, f.size)
