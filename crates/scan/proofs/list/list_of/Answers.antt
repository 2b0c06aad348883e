-- `scan::list::list_of` meets its contract. Assumes nothing.
use Rattle.std.proofs.Common.{◌∙◌}
use Rattle.scan.proofs.Listing.{listed_is, exact_done}
use Rattle.scan.proofs.list.list_of.Goals as goal

pub returns : goal.returns
returns g c =
    let w = c.gather_exact-count.ensures in
    rw (exact_done _ _ _ _ _ _ _ c.if-coherent-ne1152.false c.if-noncoherent-ne1152.false c.if-crcs.false c.if-others.false c.if-list.false, c.requires.2)
    (listed_is _ _ w.1 (c.copy_from_slice.ensures.after ∙ w.2))
