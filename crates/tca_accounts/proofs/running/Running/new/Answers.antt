use Rattle.tca_meters.specs.Termed.{termed_rule}
use Rattle.tca_accounts.proofs.Bills.{stands_begun}
use Rattle.tca_accounts.proofs.running.Running.new.Goals as goal

pub returns-clause-running : goal.returns-clause-running
returns-clause-running c = λ period reports. rw (c.no_reports.ensures, c.new.ensures.items) (stands_begun (termed_rule c.args.meter) c.args.other period reports)
