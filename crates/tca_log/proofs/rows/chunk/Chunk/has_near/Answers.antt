use Rattle.std.proofs.Common.{ap, sym, ◌∙◌}
use Rattle.std.specs.Prelude.{is_some}
use Rattle.tca_log.proofs.OrderedRows.Search.{has_tied}
use Rattle.tca_log.proofs.rows.chunk.Chunk.has_near.Goals as goal

pub returns-in-Ok : goal.returns-in-Ok
returns-in-Ok g c = sym (has_tied g.K.Ord.cmp g.met.K.Ord.total c.args.key.now c.args.self.now ∙ ap is_some c.in-Ok.ensures.tie)

pub returns-in-Err : goal.returns-in-Err
returns-in-Err g c = sym (has_tied g.K.Ord.cmp g.met.K.Ord.total c.args.key.now c.args.self.now ∙ ap is_some c.in-Err.ensures.none)
