use Rattle.std.proofs.Common.{length}
use Rattle.std.specs.List.Sorted.{IsSearchInRange, IsBinarySearchResult}
use Rattle.tca_log.proofs.OrderedRows.Search.{searched}
use Rattle.tca_log.proofs.rows.chunk.Chunk.search.Goals as goal

pub returns : goal.returns
returns g c =
    let bound : IsSearchInRange c.binary_search.result (length c.args.self.now) = rw (← c.rows.ensures) c.binary_search.ensures.bound in
    let at : IsBinarySearchResult (λ y. g.K.Ord.cmp y c.args.key.now) c.args.self.now c.binary_search.result = rw (← c.rows.ensures) c.binary_search.ensures.position in
    let all = searched g.K.Ord.cmp g.met.K.Ord.total c.args.self.now c.args.key.now c.binary_search.result c.requires bound at in
    record { bound = bound; tie = all.tie; there = all.there; gone = all.gone; none = all.none; gap = all.gap; same = all.same; rank = all.rank }
