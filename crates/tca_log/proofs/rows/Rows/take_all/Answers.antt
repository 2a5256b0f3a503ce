use Rattle.std.proofs.Common.{sym, ap, ◌∙◌, arith}
use Rattle.std.proofs.lemmas.List.{nil_from_length}
use Rattle.tca_log.specs.Rows.Ordered.{put_each}
use Rattle.tca_log.proofs.OrderedRows.Each.{put_each_none}
use Rattle.tca_log.proofs.rows.Rows.take_all.Goals as goal

pub returns-then-len-gt0-clause-ok : goal.returns-then-len-gt0-clause-ok
returns-then-len-gt0-clause-ok g c =
    let none = nil_from_length c.args.self.now.rows (omega (arith, c.len.ensures.length, c.if-len-eq0.true)) in
    sym (ap (put_each g.K.Ord.cmp c.args.other.rows) none ∙ put_each_none g.K.Ord.cmp g.met.K.Ord.total c.args.other.rows c.len-then-len-eq0.ensures.rises)
