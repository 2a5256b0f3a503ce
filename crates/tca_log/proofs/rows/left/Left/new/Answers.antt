use Rattle.tca_log.proofs.OrderedRows.Passing.{seen_next}
use Rattle.tca_log.proofs.rows.left.Left.new.Goals as goal

pub returns : goal.returns
returns g c = seen_next c.args.rows c.next-next.new.self c.next-next.result c.next-next.ensures.steps
