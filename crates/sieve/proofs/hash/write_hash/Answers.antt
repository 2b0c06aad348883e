-- `sieve::hash::write_hash` meets its contract. Assumes nothing.
use Rattle.std.proofs.Common.{sym, arith}
use Rattle.sieve.specs.Tables.{one_displacements, one_owners, one_positions, two_displacements, two_owners}
use Rattle.sieve.specs.Hash.{hash_into}
use Rattle.sieve.proofs.Picking.{part_length}
use Rattle.sieve.proofs.Asking.{not_both, written}
use Rattle.sieve.proofs.hash.write_hash.Goals as goal

pub returns-then-displacements-ne2688 : goal.returns-then-displacements-ne2688
unfolding hash_into
returns-then-displacements-ne2688 c = rw (not_both _ _ _ _ c.then-displacements-ne2688.either)

pub slice_bounds-copy_from_slice-end-2 : goal.slice_bounds-copy_from_slice-end-2
slice_bounds-copy_from_slice-end-2 c = part_length 128 c.args.displacements.now (omega (arith, c.if-displacements-ne2688.false))

pub copy_from_slice-requires : goal.copy_from_slice-requires
copy_from_slice-requires c = sym (part_length 128 c.args.displacements.now (omega (arith, c.if-displacements-ne2688.false)))

pub slice_bounds-copy_from_slice-end-9 : goal.slice_bounds-copy_from_slice-end-9
slice_bounds-copy_from_slice-end-9 c = part_length 512 c.args.owners.now (omega (arith, c.if-owners-ne8704.false))

pub copy_from_slice-requires-4 : goal.copy_from_slice-requires-4
copy_from_slice-requires-4 c = sym (part_length 512 c.args.owners.now (omega (arith, c.if-owners-ne8704.false)))

pub returns : goal.returns
unfolding one_displacements one_owners one_positions two_displacements two_owners
returns c =
    let a = c.args in
    written a.displacements.now a.owners.now _ _ _ _ _ c.if-displacements-ne2688.false c.if-owners-ne8704.false
    (c.copy_from_slice.ensures.after, c.copy_from_slice-2.ensures.after, c.copy_from_slice-3.ensures.after)
    (c.copy_from_slice-4.ensures.after, c.copy_from_slice-5.ensures.after)
