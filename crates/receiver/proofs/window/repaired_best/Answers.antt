-- `receiver::window::repaired_best` meets its contract: at a place that is not listed no repair clears either message. Assumes nothing.
use native.Mathlib.Omega.{arith}
use Rattle.receiver.specs.Inner.{kind_of}
use Rattle.receiver.proofs.EitherKind.{right}
use Rattle.receiver.proofs.Weighing.{level_low}
use Rattle.receiver.proofs.Finding.{scanned_sizes}
use Rattle.receiver.proofs.Repaired.{repaired_taken, repaired_best}
use Rattle.receiver.proofs.Listed.{nothing_listed}
use Rattle.receiver.proofs.window.repaired_best.Goals as goal

pub returns-then-count-eq0 : goal.returns-then-count-eq0
returns-then-count-eq0 c =
    let a = c.args in
    let w = a.scan.now in
    let k = w.kind in
    let z = scanned_sizes _ _ _ _ _ _ w.scanned in
    let t = repaired_taken (kind_of k) (right k) w.crcs.now w.others.now a.s.level a.list.now a.codes.now c.repairable_places.result z.first_crcs z.second_crcs c.requires.2 c.requires.3 (level_low a.s c.requires.0) c.repairable_places.ensures c.unwrap_or-count.ensures in
    repaired_best (kind_of k) (right k) w.samples.now _ _ _ _ w.scanned a.s c.requires.1 t.front (nothing_listed _ _ _ c.if-count-eq0.true)

pub invariant_of-places : goal.invariant_of-places
invariant_of-places c =
    let a = c.args in
    let w = a.scan.now in
    let k = w.kind in
    let r = right k in
    let z = scanned_sizes _ _ _ _ _ _ w.scanned in
    let t = repaired_taken (kind_of k) r w.crcs.now w.others.now a.s.level a.list.now a.codes.now c.repairable_places.result z.first_crcs z.second_crcs c.requires.2 c.requires.3 (level_low a.s c.requires.0) c.repairable_places.ensures c.unwrap_or-count.ensures in
    let l = t.listing in
    record { few = omega (arith, l.few, r.last, r.low); numbered = omega (arith, l.few, l.places); coded = omega (arith, l.few, l.many) }

pub best_listed-requires : goal.best_listed-requires
best_listed-requires c =
    let a = c.args in
    let w = a.scan.now in
    let k = w.kind in
    let z = scanned_sizes _ _ _ _ _ _ w.scanned in
    let t = repaired_taken (kind_of k) (right k) w.crcs.now w.others.now a.s.level a.list.now a.codes.now c.repairable_places.result z.first_crcs z.second_crcs c.requires.2 c.requires.3 (level_low a.s c.requires.0) c.repairable_places.ensures c.unwrap_or-count.ensures in
    (t.listing, c.requires.0)

pub returns : goal.returns
returns c =
    let a = c.args in
    let w = a.scan.now in
    let k = w.kind in
    let z = scanned_sizes _ _ _ _ _ _ w.scanned in
    let t = repaired_taken (kind_of k) (right k) w.crcs.now w.others.now a.s.level a.list.now a.codes.now c.repairable_places.result z.first_crcs z.second_crcs c.requires.2 c.requires.3 (level_low a.s c.requires.0) c.repairable_places.ensures c.unwrap_or-count.ensures in
    repaired_best (kind_of k) (right k) w.samples.now _ _ _ _ w.scanned a.s c.requires.1 t.front c.best_listed.ensures
