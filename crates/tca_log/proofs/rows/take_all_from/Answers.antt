use Rattle.std.proofs.Common.{◌≤◌, ap, arith, length}
use Rattle.std.proofs.lemmas.List.Elements.{All-set}
use Rattle.tca_log.proofs.OrderedRows.Each.{beyond_shorter}
use Rattle.tca_log.proofs.OrderedRows.Small.{IsSmall, all_at}
use Rattle.tca_log.proofs.OrderedRows.Whole.{no_chunks, only_less}
use Rattle.tca_log.proofs.rows.take_all_from.Goals as goal

pub returns-then-len-eq0-clause-chunks : goal.returns-then-len-eq0-clause-chunks
returns-then-len-eq0-clause-chunks g c = rw c.clear.ensures.items (no_chunks g.K.Ord.cmp g.met.K.Ord.total)

pub returns-else-len-eq0-clause-chunks : goal.returns-else-len-eq0-clause-chunks
returns-else-len-eq0-clause-chunks g c =
    only_less g.K.Ord.cmp g.met.K.Ord.total c.args.others.now.rows c.args.chunks.now.items c.index_mut-chunk.result.now c.withdraw_all.new.self (omega (arith, c.requires.one)) c.requires.chunks c.index_mut-chunk.ensures.value c.withdraw_all.ensures (omega (arith, c.len.ensures, c.if-len-eq0.false))

pub returns-else-len-eq0-clause-small : goal.returns-else-len-eq0-clause-small
returns-else-len-eq0-clause-small g c all =
    let few = all_at IsSmall c.args.chunks.now.items 0 c.index_mut-chunk.result.now all (omega (arith, c.requires.one)) c.index_mut-chunk.ensures.value in
    let less : length c.withdraw_all.new.self ≤ 256 = omega (arith, few, ap length c.withdraw_all.ensures, beyond_shorter g.K.Ord.cmp g.met.K.Ord.total c.args.others.now.rows c.index_mut-chunk.result.now) in
    All-set IsSmall c.args.chunks.now.items 0 c.withdraw_all.new.self less all
