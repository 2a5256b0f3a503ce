use Rattle.std.proofs.Common.{arith}
use Rattle.tca_log.proofs.OrderedRows.Each.{beyond_shorter}
use Rattle.tca_log.proofs.rows.Rows.difference.Goals as goal

pub difference-requires-clause-few : goal.difference-requires-clause-few
difference-requires-clause-few g c = omega (arith, beyond_shorter g.K.Ord.cmp g.met.K.Ord.total c.args.held.now.rows c.args.self.now.rows, c.requires, c.iter.ensures.limit)
