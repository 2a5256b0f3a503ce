use Rattle.tca_log.proofs.OrderedRows.Each.{ArePutting}
use Rattle.tca_log.proofs.rows.Rows.put_all.Given as goal

abbrev pub invariant-loop-key : goal.invariant-loop-key
invariant-loop-key g l = ArePutting g.K.Ord.cmp l.other.rows l.fn.self.rows l.self.rows l.key-iterator
