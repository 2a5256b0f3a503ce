use Rattle.std.proofs.Common.{◌∙◌, ◌<◌, length, sym, ap, arith}
use Rattle.tca_log.proofs.OrderedRows.Positions.{some_put}
use Rattle.tca_log.proofs.OrderedRows.Small.{put_longest}
use Rattle.tca_log.proofs.OrderedRows.Whole.{put_low, put_high, low_rises, high_rises}
use Rattle.tca_log.proofs.rows.chunk.Chunk.put_splitting.Goals as goal

pub put-requires-clause-rises : goal.put-requires-clause-rises
put-requires-clause-rises g c = low_rises g.K.Ord.cmp g.met.K.Ord.total c.args.self.now c.split.new.self c.split.new.upper c.split.ensures.all c.requires.rises

pub put-requires-else-starts_after-clause-rises : goal.put-requires-else-starts_after-clause-rises
put-requires-else-starts_after-clause-rises g c = high_rises g.K.Ord.cmp g.met.K.Ord.total c.args.self.now c.split.new.self c.split.new.upper c.split.ensures.all c.requires.rises

pub returns-then-starts_after-clause-all : goal.returns-then-starts_after-clause-all
returns-then-starts_after-clause-all g c =
    rw c.put.ensures (put_low g.K.Ord.cmp g.met.K.Ord.total c.args.key c.args.self.now c.split.new.self c.split.new.upper c.split.ensures.all c.requires.rises (sym c.starts_after.ensures ∙ c.if-starts_after.true))

pub returns-then-starts_after-clause-some : goal.returns-then-starts_after-clause-some
returns-then-starts_after-clause-some g c = rw c.put.ensures (some_put g.K.Ord.cmp g.met.K.Ord.total c.args.key c.split.new.self)

pub returns-else-starts_after-clause-all : goal.returns-else-starts_after-clause-all
returns-else-starts_after-clause-all g c =
    let some : 0 < length c.split.new.upper = omega (arith, c.split.ensures.upper c.requires.full) in
    rw c.put-else-starts_after.ensures (put_high g.K.Ord.cmp g.met.K.Ord.total c.args.key c.args.self.now c.split.new.self c.split.new.upper c.split.ensures.all c.requires.rises some (sym c.starts_after.ensures ∙ c.if-starts_after.false))

pub returns-else-starts_after-clause-more : goal.returns-else-starts_after-clause-more
returns-else-starts_after-clause-more g c = rw c.put-else-starts_after.ensures (some_put g.K.Ord.cmp g.met.K.Ord.total c.args.key c.split.new.upper)

pub returns-then-starts_after-clause-small : goal.returns-then-starts_after-clause-small
returns-then-starts_after-clause-small g c =
    omega (arith, ap length c.put.ensures, put_longest g.K.Ord.cmp c.args.key c.split.new.self, c.split.ensures.lower c.requires.full)

pub returns-else-starts_after-clause-small_upper : goal.returns-else-starts_after-clause-small_upper
returns-else-starts_after-clause-small_upper g c =
    omega (arith, ap length c.put-else-starts_after.ensures, put_longest g.K.Ord.cmp c.args.key c.split.new.upper, c.split.ensures.upper c.requires.full)
