-- `repairs::search::place` meets its contract. Assumes nothing.
use Prim.Native.Nat.{◌/◌}
use borrow.Author.Rules.{rules}
use Rattle.std.proofs.lemmas.List.Sorted.{answers_always}
use Rattle.repairs.proofs.Lookup.{place_found}
use Rattle.repairs.proofs.search.place.Goals as goal

pub returns : goal.returns
returns c =
    let s = c.binary_search_by_key in
    let found = place_found c.args.table.now c.requires c.args.crc s.result s.ensures.bound
    (s.ensures.position (λ y. y / 256) (answers_always _ _ _ (λ f a r q k. search rules))) in
    rw c.ok.ensures.value found
