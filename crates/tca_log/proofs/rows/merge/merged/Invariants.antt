use Rattle.tca_log.specs.Rows.Ordered.{put_each}
use Rattle.tca_log.proofs.OrderedRows.Passing.{AreMerging}
use Rattle.tca_log.proofs.rows.merge.merged.Given as goal

abbrev pub invariant-loop-key : goal.invariant-loop-key
invariant-loop-key g l = AreMerging g.K.Ord.cmp l.list.items l.key-iterator l.left (put_each g.K.Ord.cmp l.news.rows l.rows.rows)
