-- `sieve::find::sift_in` meets its contract. Assumes nothing.
use Rattle.std.proofs.Common.{rules}
use Rattle.sieve.proofs.Picking.{through_within}
use Rattle.sieve.proofs.find.sift_in.Goals as goal

pub gather-requires : goal.gather-requires
gather-requires c =
    let p = c.requires in
    let l = c.list_in-count in
    (p.0, p.1, p.2, search rules, l.ensures.0, through_within _ _ _ _ (search rules) l.ensures.0 l.ensures.1, search rules)
