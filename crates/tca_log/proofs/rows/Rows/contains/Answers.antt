use Rattle.std.proofs.Common.{sym, ap, ◌∙◌}
use Rattle.std.specs.Prelude.{is_some}
use Rattle.tca_log.proofs.OrderedRows.Search.{has_tied, copied_some}
use Rattle.tca_log.proofs.rows.Rows.contains.Goals as goal

pub returns : goal.returns
returns g c = c.is_some.ensures ∙ copied_some c.get.result ∙ ap is_some c.get.ensures ∙ sym (has_tied g.K.Ord.cmp g.met.K.Ord.total c.args.key.now c.args.self.now.rows)
