use Rattle.std.proofs.Common.{◌∙◌, le-ltb}
use Rattle.tca_audit.proofs.Repeats.{begins_at, begins_past}
use Rattle.tca_audit.proofs.disputes.stands_at.Goals as goal

pub returns-then-at-list : goal.returns-then-at-list
returns-then-at-list c = c.eq.ensures ∙ begins_at c.args.list.now c.args.at (record { domain = 0; session = 0; place = 0 }) c.args.identity c.if-at-list.true

pub returns-else-at-list : goal.returns-else-at-list
returns-else-at-list c = le-ltb _ _ c.if-at-list.false ∙ begins_past c.args.list.now c.args.at c.args.identity c.args.identity c.if-at-list.false
