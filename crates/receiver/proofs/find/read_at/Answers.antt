-- `receiver::find::read_at` meets its contract: the row and the lane are lent, and what clears the messages is told.
-- Assumes nothing.
use mathlib.Core.Path.{refl}
use Prim.Native.Nat.{◌+◌, ◌-◌, ◌*◌, min}
use native.Mathlib.Omega.{arith}
use lib.ListN.{length-take, length-drop}
use Rattle.place.proofs.Within.{listed_gives, within_is}
use Rattle.receiver.specs.Inner.{kind_of}
use Rattle.receiver.proofs.EitherKind.{right, within_listed}
use Rattle.receiver.proofs.Finding.{scanned_sizes, symbols_there, starts, lent_lane, lent_known, lent_read}
use Rattle.receiver.proofs.find.read_at.Goals as goal

pub overflow_mul-lane : goal.overflow_mul-lane
overflow_mul-lane c = let l = listed_gives (kind_of c.args.scan.now.kind).last c.args.place c.requires.1 in let z = scanned_sizes _ _ _ _ _ _ c.args.scan.now.scanned in let y = symbols_there c.args.scan.now.samples.now c.requires.0 in omega (arith, l.from, l.to, l.phase, l.symbol, z.first, z.second, z.first_crcs, z.second_crcs, y, (right c.args.scan.now.kind).last)

pub overflow_add-lane : goal.overflow_add-lane
overflow_add-lane c = let l = listed_gives (kind_of c.args.scan.now.kind).last c.args.place c.requires.1 in let z = scanned_sizes _ _ _ _ _ _ c.args.scan.now.scanned in let y = symbols_there c.args.scan.now.samples.now c.requires.0 in omega (arith, l.from, l.to, l.phase, l.symbol, z.first, z.second, z.first_crcs, z.second_crcs, y, (right c.args.scan.now.kind).last)

pub overflow_mul-i : goal.overflow_mul-i
overflow_mul-i c = let l = listed_gives (kind_of c.args.scan.now.kind).last c.args.place c.requires.1 in let z = scanned_sizes _ _ _ _ _ _ c.args.scan.now.scanned in let y = symbols_there c.args.scan.now.samples.now c.requires.0 in omega (arith, l.from, l.to, l.phase, l.symbol, z.first, z.second, z.first_crcs, z.second_crcs, y, (right c.args.scan.now.kind).last)

pub overflow_add-i : goal.overflow_add-i
overflow_add-i c = let l = listed_gives (kind_of c.args.scan.now.kind).last c.args.place c.requires.1 in let z = scanned_sizes _ _ _ _ _ _ c.args.scan.now.scanned in let y = symbols_there c.args.scan.now.samples.now c.requires.0 in omega (arith, l.from, l.to, l.phase, l.symbol, z.first, z.second, z.first_crcs, z.second_crcs, y, (right c.args.scan.now.kind).last)

pub overflow_sub-i : goal.overflow_sub-i
overflow_sub-i c = let l = listed_gives (kind_of c.args.scan.now.kind).last c.args.place c.requires.1 in let z = scanned_sizes _ _ _ _ _ _ c.args.scan.now.scanned in let y = symbols_there c.args.scan.now.samples.now c.requires.0 in omega (arith, l.from, l.to, l.phase, l.symbol, z.first, z.second, z.first_crcs, z.second_crcs, y, (right c.args.scan.now.kind).last)

pub offset_bounds-scan-i : goal.offset_bounds-scan-i
offset_bounds-scan-i c = let l = listed_gives (kind_of c.args.scan.now.kind).last c.args.place c.requires.1 in let z = scanned_sizes _ _ _ _ _ _ c.args.scan.now.scanned in let y = symbols_there c.args.scan.now.samples.now c.requires.0 in omega (arith, l.from, l.to, l.phase, l.symbol, z.first, z.second, z.first_crcs, z.second_crcs, y, (right c.args.scan.now.kind).last)

pub bounds-scan-i : goal.bounds-scan-i
bounds-scan-i c = let l = listed_gives (kind_of c.args.scan.now.kind).last c.args.place c.requires.1 in let z = scanned_sizes _ _ _ _ _ _ c.args.scan.now.scanned in let y = symbols_there c.args.scan.now.samples.now c.requires.0 in omega (arith, l.from, l.to, l.phase, l.symbol, z.first, z.second, z.first_crcs, z.second_crcs, y, (right c.args.scan.now.kind).last)

pub offset_bounds-scan-i-2 : goal.offset_bounds-scan-i-2
offset_bounds-scan-i-2 c = let l = listed_gives (kind_of c.args.scan.now.kind).last c.args.place c.requires.1 in let z = scanned_sizes _ _ _ _ _ _ c.args.scan.now.scanned in let y = symbols_there c.args.scan.now.samples.now c.requires.0 in omega (arith, l.from, l.to, l.phase, l.symbol, z.first, z.second, z.first_crcs, z.second_crcs, y, (right c.args.scan.now.kind).last)

pub bounds-scan-i-2 : goal.bounds-scan-i-2
bounds-scan-i-2 c = let l = listed_gives (kind_of c.args.scan.now.kind).last c.args.place c.requires.1 in let z = scanned_sizes _ _ _ _ _ _ c.args.scan.now.scanned in let y = symbols_there c.args.scan.now.samples.now c.requires.0 in omega (arith, l.from, l.to, l.phase, l.symbol, z.first, z.second, z.first_crcs, z.second_crcs, y, (right c.args.scan.now.kind).last)

pub row_of-requires : goal.row_of-requires
row_of-requires c = (symbols_there c.args.scan.now.samples.now c.requires.0, (listed_gives (kind_of c.args.scan.now.kind).last c.args.place c.requires.1).phase)

pub read_lane-requires : goal.read_lane-requires
read_lane-requires c =
    let p = c.args.place in
    let l = listed_gives (kind_of c.args.scan.now.kind).last p c.requires.1 in
    let y = symbols_there c.args.scan.now.samples.now c.requires.0 in (
      c.args.scan.now.scanned.whole,
      rw c.row_of.ensures (simp (length-take, length-drop) (omega (arith, l.phase, y))),
      lent_lane (kind_of c.args.scan.now.kind) (right c.args.scan.now.kind) c.args.scan.now.samples.now c.args.symbols.now c.args.scan.now.coherent.now c.args.scan.now.noncoherent.now c.args.scan.now.crcs.now c.args.scan.now.others.now (record { scanned = c.args.scan.now.scanned; sums = c.requires.0 }) p c.requires.1,
      within_is (kind_of c.args.scan.now.kind).bytes p (within_listed (kind_of c.args.scan.now.kind) (right c.args.scan.now.kind) p c.requires.1),
      c.requires.2,
      lent_known (kind_of c.args.scan.now.kind) (right c.args.scan.now.kind) c.args.scan.now.samples.now c.args.symbols.now c.args.scan.now.coherent.now c.args.scan.now.noncoherent.now c.args.scan.now.crcs.now c.args.scan.now.others.now (record { scanned = c.args.scan.now.scanned; sums = c.requires.0 }) p c.requires.1 (min c.args.s.level (kind_of c.args.scan.now.kind).most) (8 * p.bit + (4 * p.symbol + p.phase) - 8) c.args.c c.args.d (starts (kind_of c.args.scan.now.kind).last p c.requires.1).lane c.requires.3 c.requires.4 c.bit_errors_by.ensures c.bit_errors_by-2.ensures refl,
    )

pub returns : goal.returns
returns c =
    let p = c.args.place in
    lent_read (kind_of c.args.scan.now.kind) (right c.args.scan.now.kind) c.args.scan.now.samples.now c.args.symbols.now c.args.scan.now.coherent.now c.args.scan.now.noncoherent.now c.args.scan.now.crcs.now c.args.scan.now.others.now (record { scanned = c.args.scan.now.scanned; sums = c.requires.0 }) p c.requires.1 c.args.s c.row_of.ensures c.read_lane.ensures
