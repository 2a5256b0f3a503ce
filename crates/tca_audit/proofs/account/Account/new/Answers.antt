use Rattle.tca_meters.specs.Termed.{termed_rule}
use Rattle.tca_accounts.proofs.Bills.{stands_begun}
use Rattle.tca_audit.proofs.account.Account.new.Goals as goal

pub returns-clause-metering : goal.returns-clause-metering
returns-clause-metering c = λ period reports. rw (c.begun.ensures, c.new.ensures, c.new-2.ensures.items) (stands_begun (termed_rule c.args.meter) c.args.other period reports)
