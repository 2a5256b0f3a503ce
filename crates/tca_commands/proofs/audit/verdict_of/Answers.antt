use Rattle.std.proofs.Common.{◌≡◌, Err, rules}
use Rattle.tca_commands.proofs.AuditLaws.{unmade, unread}
use Rattle.tca_commands.proofs.audit.verdict_of.Goals as goal

pub returns-in_err-plan-clause-unmade : goal.returns-in_err-plan-clause-unmade
returns-in_err-plan-clause-unmade c =
    let e = c.in_err-plan.field-0.0 in
    let is : c.from_residual.result ≡ Err e = search rules in
    rw is (unread c.args.plan.now c.args.export.now e c.in_err-plan.ensures.refused)

pub returns-clause-unmade : goal.returns-clause-unmade
returns-clause-unmade c = unmade c.args.plan.now c.args.export.now c.in_ok-plan.plan c.in_ok-plan.ensures.named c.verdict_under.result c.verdict_under.ensures.refused
