use Rattle.std.proofs.lemmas.Grind.{common_steps}
use Rattle.std.proofs.Common.{ap, sym, ◌∙◌, arith}
use Rattle.std.specs.Ordering.{is_lt}
use Rattle.tca_log.proofs.OrderedRows.Rising.{falls, rises_first, rises_more}
use Rattle.tca_log.proofs.rows.order.ascend.Goals as goal

pub loop-at-init : goal.loop-at-init
loop-at-init g c = rises_first g.K.Ord.cmp g.met.K.Ord.total c.args.rows.now

pub loop-at-preserved : goal.loop-at-preserved
loop-at-preserved g c =
    rises_more g.K.Ord.cmp g.met.K.Ord.total c.args.rows.now c.loop-at.at c.index-rows-at.result c.index-rows-at-in-loop-at.result (omega arith) (omega arith) c.index-rows-at.is c.index-rows-at-in-loop-at.is (ap is_lt (sym c.cmp.ensures) ∙ sym c.is_lt.ensures ∙ c.if-not-is_lt.false) c.loop-at.invariant

pub returns-then-not-is_lt-clause-all : goal.returns-then-not-is_lt-clause-all
returns-then-not-is_lt-clause-all g c = λ rises.
    absurd (falls g.K.Ord.cmp g.met.K.Ord.total c.args.rows.now c.loop-at.at c.index-rows-at.result c.index-rows-at-in-loop-at.result (omega arith) (omega arith) c.index-rows-at.is c.index-rows-at-in-loop-at.is (ap is_lt (sym c.cmp.ensures) ∙ sym c.is_lt.ensures ∙ c.if-not-is_lt.true) rises)

pub returns-clause-rises : goal.returns-clause-rises
returns-clause-rises g c = grind (arith, common_steps)
