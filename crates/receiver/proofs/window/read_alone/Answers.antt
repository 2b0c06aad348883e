-- `receiver::window::read_alone` meets its contract: what clears the two messages is asked of the tables, and what is
-- read is counted. Assumes nothing.
use mathlib.Core.Path.{◌≡◌, refl, ap, ◌∙◌}
use Rattle.std.specs.Prelude as code
use Prim.Native.Nat.{◌+◌, ◌-◌, ◌*◌, min}
use native.Mathlib.Omega.{arith}
use lib.ListN.{length, replicate}
use Rattle.place.specs.Step.{sample_start}
use Rattle.place.proofs.Within.{listed_gives}
use Rattle.kernels.proofs.Summing.{symbols_length, symbols_out}
use Rattle.receiver.specs.Inner.{kind_of}
use Rattle.receiver.proofs.EitherKind.{right}
use Rattle.receiver.proofs.Weighing.{level_low}
use Rattle.receiver.proofs.Counted.{read_taken, read_counted}
use Rattle.receiver.proofs.Finding.{scanned_sizes}
use Rattle.receiver.proofs.Repaired.{two_codes, both_asked}
use Rattle.receiver.proofs.window.read_alone.Goals as goal

pub overflow_mul-i : goal.overflow_mul-i
overflow_mul-i c =
    let l = listed_gives (kind_of c.args.scan.now.kind).last c.args.place c.requires.0 in
    let z = scanned_sizes _ _ _ _ _ _ c.args.scan.now.scanned in
    omega (arith, l.from, l.to, l.phase, l.symbol, z.first_crcs, z.second_crcs, (right c.args.scan.now.kind).last)

pub overflow_mul-i-2 : goal.overflow_mul-i-2
overflow_mul-i-2 c =
    let l = listed_gives (kind_of c.args.scan.now.kind).last c.args.place c.requires.0 in
    let z = scanned_sizes _ _ _ _ _ _ c.args.scan.now.scanned in
    omega (arith, l.from, l.to, l.phase, l.symbol, z.first_crcs, z.second_crcs, (right c.args.scan.now.kind).last)

pub overflow_add-i : goal.overflow_add-i
overflow_add-i c =
    let l = listed_gives (kind_of c.args.scan.now.kind).last c.args.place c.requires.0 in
    let z = scanned_sizes _ _ _ _ _ _ c.args.scan.now.scanned in
    omega (arith, l.from, l.to, l.phase, l.symbol, z.first_crcs, z.second_crcs, (right c.args.scan.now.kind).last)

pub overflow_add-i-2 : goal.overflow_add-i-2
overflow_add-i-2 c =
    let l = listed_gives (kind_of c.args.scan.now.kind).last c.args.place c.requires.0 in
    let z = scanned_sizes _ _ _ _ _ _ c.args.scan.now.scanned in
    omega (arith, l.from, l.to, l.phase, l.symbol, z.first_crcs, z.second_crcs, (right c.args.scan.now.kind).last)

pub overflow_sub-i : goal.overflow_sub-i
overflow_sub-i c =
    let l = listed_gives (kind_of c.args.scan.now.kind).last c.args.place c.requires.0 in
    let z = scanned_sizes _ _ _ _ _ _ c.args.scan.now.scanned in
    omega (arith, l.from, l.to, l.phase, l.symbol, z.first_crcs, z.second_crcs, (right c.args.scan.now.kind).last)

pub offset_bounds-scan-i : goal.offset_bounds-scan-i
offset_bounds-scan-i c =
    let l = listed_gives (kind_of c.args.scan.now.kind).last c.args.place c.requires.0 in
    let z = scanned_sizes _ _ _ _ _ _ c.args.scan.now.scanned in
    omega (arith, l.from, l.to, l.phase, l.symbol, z.first_crcs, z.second_crcs, (right c.args.scan.now.kind).last)

pub bounds-scan-i : goal.bounds-scan-i
bounds-scan-i c =
    let l = listed_gives (kind_of c.args.scan.now.kind).last c.args.place c.requires.0 in
    let z = scanned_sizes _ _ _ _ _ _ c.args.scan.now.scanned in
    omega (arith, l.from, l.to, l.phase, l.symbol, z.first_crcs, z.second_crcs, (right c.args.scan.now.kind).last)

pub offset_bounds-scan-i-2 : goal.offset_bounds-scan-i-2
offset_bounds-scan-i-2 c =
    let l = listed_gives (kind_of c.args.scan.now.kind).last c.args.place c.requires.0 in
    let z = scanned_sizes _ _ _ _ _ _ c.args.scan.now.scanned in
    omega (arith, l.from, l.to, l.phase, l.symbol, z.first_crcs, z.second_crcs, (right c.args.scan.now.kind).last)

pub bounds-scan-i-2 : goal.bounds-scan-i-2
bounds-scan-i-2 c =
    let l = listed_gives (kind_of c.args.scan.now.kind).last c.args.place c.requires.0 in
    let z = scanned_sizes _ _ _ _ _ _ c.args.scan.now.scanned in
    omega (arith, l.from, l.to, l.phase, l.symbol, z.first_crcs, z.second_crcs, (right c.args.scan.now.kind).last)

pub read_at-requires : goal.read_at-requires
read_at-requires c =
    let a = c.args in
    let k = kind_of a.scan.now.kind in
    let p = a.place in
    let i = 8 * p.bit + 4 * p.symbol + p.phase - 8 in
    let z : i ≡ sample_start p - 8 = omega arith in
    let e = two_codes k (right a.scan.now.kind) k.most a.s.level _ _ (replicate 2 0) refl (level_low a.s c.requires.1) c.bit_errors.ensures in
    let x = both_asked k (right a.scan.now.kind) a.scan.now.crcs.now a.scan.now.others.now (min a.s.level k.most) i (sample_start p - 8) z e in (
      symbols_out a.scan.now.samples.now _ _ a.scan.now.summed refl c.symbols_of_sums.ensures,
      c.requires.0,
      c.requires.1,
      x.first,
      x.second,
    )

pub returns-in_err-read : goal.returns-in_err-read
returns-in_err-read c =
    let a = c.args in
    c.from_residual.ensures
    ∙ rw c.in_err-read.was at (read_counted (kind_of a.scan.now.kind) (right a.scan.now.kind) a.scan.now.samples.now _ (symbols_out a.scan.now.samples.now _ _ a.scan.now.summed refl c.symbols_of_sums.ensures) a.place c.requires.0 a.s c.read_at.ensures)

pub counted-requires : goal.counted-requires
counted-requires c =
    let a = c.args in
    let e = symbols_out a.scan.now.samples.now _ _ a.scan.now.summed refl c.symbols_of_sums.ensures in
    (ap length e ∙ symbols_length a.scan.now.samples.now, read_taken (kind_of a.scan.now.kind) (right a.scan.now.kind) a.scan.now.samples.now _ e a.place c.requires.0 a.s c.read_at.ensures c.in_ok-read.read c.in_ok-read.was)

pub returns : goal.returns
returns c =
    let a = c.args in
    ap code.Some c.counted.ensures
    ∙ rw c.in_ok-read.was at (read_counted (kind_of a.scan.now.kind) (right a.scan.now.kind) a.scan.now.samples.now _ (symbols_out a.scan.now.samples.now _ _ a.scan.now.summed refl c.symbols_of_sums.ensures) a.place c.requires.0 a.s c.read_at.ensures)
