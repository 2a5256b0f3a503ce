use Rattle.std.proofs.Common.{◌≤◌, ap, arith, length, set}
use Rattle.std.proofs.lemmas.List.Elements.{All-set}
use Rattle.tca_log.proofs.OrderedRows.Small.{IsSmall, all_at, all_less, without_shorter}
use Rattle.tca_log.proofs.OrderedRows.Whole.{rises_here, less_here, gone_here}
use Rattle.tca_log.proofs.rows.take_from.Goals as goal

pub withdraw-requires : goal.withdraw-requires
withdraw-requires g c = record { rises = rises_here g.K.Ord.cmp g.met.K.Ord.total c.args.key.now c.args.chunks.now.items c.position-at.result c.index_mut-chunk.result.now c.requires.chunks (rw c.deref.ensures.value at c.position-at.ensures) c.index_mut-chunk.ensures.value }

pub returns-then-len-eq0-clause-joined : goal.returns-then-len-eq0-clause-joined
returns-then-len-eq0-clause-joined g c =
    rw c.remove.ensures.items ((gone_here g.K.Ord.cmp g.met.K.Ord.total c.args.key.now c.args.chunks.now.items c.position-at.result c.index_mut-chunk.result.now c.withdraw.new.self c.requires.chunks (rw c.deref.ensures.value at c.position-at.ensures) c.index_mut-chunk.ensures.value c.withdraw.ensures (omega (arith, c.len.ensures))).0)

pub returns-then-len-eq0-clause-chunks : goal.returns-then-len-eq0-clause-chunks
returns-then-len-eq0-clause-chunks g c =
    rw c.remove.ensures.items ((gone_here g.K.Ord.cmp g.met.K.Ord.total c.args.key.now c.args.chunks.now.items c.position-at.result c.index_mut-chunk.result.now c.withdraw.new.self c.requires.chunks (rw c.deref.ensures.value at c.position-at.ensures) c.index_mut-chunk.ensures.value c.withdraw.ensures (omega (arith, c.len.ensures))).1)

pub returns-else-len-eq0-clause-joined : goal.returns-else-len-eq0-clause-joined
returns-else-len-eq0-clause-joined g c =
    (less_here g.K.Ord.cmp g.met.K.Ord.total c.args.key.now c.args.chunks.now.items c.position-at.result c.index_mut-chunk.result.now c.withdraw.new.self c.requires.chunks (rw c.deref.ensures.value at c.position-at.ensures) c.index_mut-chunk.ensures.value c.withdraw.ensures (omega (arith, c.len.ensures))).0

pub returns-else-len-eq0-clause-chunks : goal.returns-else-len-eq0-clause-chunks
returns-else-len-eq0-clause-chunks g c =
    (less_here g.K.Ord.cmp g.met.K.Ord.total c.args.key.now c.args.chunks.now.items c.position-at.result c.index_mut-chunk.result.now c.withdraw.new.self c.requires.chunks (rw c.deref.ensures.value at c.position-at.ensures) c.index_mut-chunk.ensures.value c.withdraw.ensures (omega (arith, c.len.ensures))).1

pub returns-then-len-eq0-clause-small : goal.returns-then-len-eq0-clause-small
returns-then-len-eq0-clause-small g c all =
    let at = rw c.deref.ensures.value at c.position-at.ensures in
    let few = all_at IsSmall c.args.chunks.now.items c.position-at.result c.index_mut-chunk.result.now all at.inside c.index_mut-chunk.ensures.value in
    let less : length c.withdraw.new.self ≤ 256 = omega (arith, few, ap length c.withdraw.ensures, without_shorter g.K.Ord.cmp c.args.key.now c.index_mut-chunk.result.now) in
    rw c.remove.ensures.items (all_less IsSmall (set c.args.chunks.now.items c.position-at.result c.withdraw.new.self) c.position-at.result (All-set IsSmall c.args.chunks.now.items c.position-at.result c.withdraw.new.self less all))

pub returns-else-len-eq0-clause-small : goal.returns-else-len-eq0-clause-small
returns-else-len-eq0-clause-small g c all =
    let at = rw c.deref.ensures.value at c.position-at.ensures in
    let few = all_at IsSmall c.args.chunks.now.items c.position-at.result c.index_mut-chunk.result.now all at.inside c.index_mut-chunk.ensures.value in
    let less : length c.withdraw.new.self ≤ 256 = omega (arith, few, ap length c.withdraw.ensures, without_shorter g.K.Ord.cmp c.args.key.now c.index_mut-chunk.result.now) in
    All-set IsSmall c.args.chunks.now.items c.position-at.result c.withdraw.new.self less all
