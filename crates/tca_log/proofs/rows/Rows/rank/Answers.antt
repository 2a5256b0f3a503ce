use Rattle.std.proofs.Common.{◌+◌, ◌≤◌, List, length, take, sym, ap, ◌∙◌, arith}
use Rattle.tca_log.specs.inside.Chunks.{joined, IsPosition}
use Rattle.tca_log.specs.Rows.Ordered.{rank}
use Rattle.tca_log.proofs.OrderedRows.Ranks.{rank_place, rank_none, front-le}
use Rattle.tca_log.proofs.OrderedRows.Small.{here-le}
use Rattle.tca_log.proofs.OrderedRows.Whole.{rises_here, here}
use Rattle.tca_log.proofs.rows.Rows.rank.Goals as goal

pub returns-then-len-eq0 : goal.returns-then-len-eq0
returns-then-len-eq0 g c = rw (← c.self.view_is) (rank_none g.K.Ord.cmp g.met.K.Ord.total c.self.inside.chunks.items c.args.key.now (omega (arith, c.len.ensures)))

pub count_of-requires : goal.count_of-requires
count_of-requires g c = rw c.deref-2.ensures.value (omega (arith, front-le g.K.Ord.cmp g.met.K.Ord.total c.self.inside.chunks.items c.position-at.result (rw c.deref.ensures.value at c.position-at.ensures).inside, c.self.invariant.limit))

pub rank-requires : goal.rank-requires
rank-requires g c =
    rises_here g.K.Ord.cmp g.met.K.Ord.total c.args.key.now c.self.inside.chunks.items c.position-at.result c.index.result.now c.self.invariant.chunks (rw c.deref.ensures.value at c.position-at.ensures) c.index.ensures

pub overflow_add-result : goal.overflow_add-result
overflow_add-result g c =
    let few : length (joined (take c.position-at.result c.deref-2.result.now)) ≤ 4194304 = rw c.deref-2.ensures.value (omega (arith, front-le g.K.Ord.cmp g.met.K.Ord.total c.self.inside.chunks.items c.position-at.result (rw c.deref.ensures.value at c.position-at.ensures).inside, c.self.invariant.limit)) in
    let at = rw c.deref.ensures.value at c.position-at.ensures in
    let size : length c.index.result.now ≤ 4194304 = omega (arith, ap length (here g.K.Ord.cmp g.met.K.Ord.total c.self.inside.chunks.items c.position-at.result c.index.result.now at.inside c.index.ensures), here-le c.self.inside.chunks.items c.position-at.result at.inside, c.self.invariant.limit) in
    omega (arith, c.count_of.ensures, c.rank.ensures.limit, few, size)

pub returns : goal.returns
returns g c =
    let position : IsPosition g.K.Ord.cmp c.self.inside.chunks.items c.args.key.now c.position-at.result = rw c.deref.ensures.value at c.position-at.ensures in
    let same = here g.K.Ord.cmp g.met.K.Ord.total c.self.inside.chunks.items c.position-at.result c.index.result.now position.inside c.index.ensures in
    rw (← c.self.view_is, c.rank.ensures.rank, c.count_of.ensures, c.deref-2.ensures.value) (ap (λ (x : List _). length (joined (take c.position-at.result c.self.inside.chunks.items)) + rank g.K.Ord.cmp c.args.key.now x) (sym same) ∙ sym (rank_place g.K.Ord.cmp g.met.K.Ord.total c.args.key.now c.self.inside.chunks.items c.position-at.result c.self.invariant.chunks position))
