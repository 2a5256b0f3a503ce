use Rattle.std.proofs.Common.{◌∙◌, ap, arith}
use Rattle.tca_log.specs.Disputes.{undisputed}
use Rattle.tca_log.proofs.Undisputed.{settled_are, undisputed_few, undisputed_rises}
use Rattle.tca_log.proofs.log.Log.settled.Goals as goal

pub returns-clause-all : goal.returns-clause-all
returns-clause-all g c = c.new.ensures ∙ settled_are c.self.inside.rows.rows c.self.inside.disputed.rows c.self.invariant.disputed_are ∙ ap undisputed c.self.view_is

pub returns-clause-rises : goal.returns-clause-rises
returns-clause-rises g c = rw (← c.self.view_is) (undisputed_rises c.self.inside.rows.rows c.self.invariant.rises)

pub returns-clause-limit : goal.returns-clause-limit
returns-clause-limit g c = rw (← c.self.view_is) (omega (arith, undisputed_few c.self.inside.rows.rows, c.self.invariant.limit))
