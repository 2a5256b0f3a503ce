use Rattle.std.proofs.lemmas.Grind.{common_steps}
use Rattle.std.proofs.Common.{◌≡◌, arith}
use Rattle.tca_meters.specs.Termed.{termed_rule}
use Rattle.tca_accounts.specs.Spans.{period_of}
use Rattle.tca_accounts.proofs.Steps.{stands_more}
use Rattle.tca_accounts.proofs.running.Running.add.Goals as goal

pub returns-clause-running : goal.returns-clause-running
returns-clause-running c = λ whole later run.
    let old = c.args.self.now in
    let told = c.content-content.ensures.value in
    let index : c.index_of-index.result ≡ period_of c.args.period.now c.args.report.now = rw told at c.index_of-index.ensures.index in
    let ended = rw index at c.in_ok-count_in.ensures.ended in
    let current = rw (index, told, c.meter_next-colour.ensures.colour) at c.in_ok-count_in.ensures.current in
    rw (c.meter_next-colour.ensures.after, ended, current) (stands_more (termed_rule old.meter) old.other c.args.period.now whole c.args.report.now later old.metered old.ended.items old.current c.index_of-index.ensures.some c.requires.order run)

pub returns-in_err-count_in-clause-time : goal.returns-in_err-count_in-clause-time
returns-in_err-count_in-clause-time c = grind (arith, common_steps)

pub returns-in_err-count_in-clause-period : goal.returns-in_err-count_in-clause-period
returns-in_err-count_in-clause-period c = grind (arith, common_steps)

pub returns-in_err-count_in-clause-running : goal.returns-in_err-count_in-clause-running
returns-in_err-count_in-clause-running c = grind (arith, common_steps)

pub returns-clause-time : goal.returns-clause-time
returns-clause-time c = grind (arith, common_steps)

pub returns-clause-period : goal.returns-clause-period
returns-clause-period c = grind (arith, common_steps)
