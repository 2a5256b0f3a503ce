use Rattle.std.proofs.lemmas.Grind.{common_steps}
use Rattle.std.proofs.Common.{◌≡◌, ◌<◌, None, Some, length, sym, ap, ◌∙◌, subst, arith, rules}
use Rattle.tca_log.specs.Disputes.{undisputed}
use Rattle.tca_accounts.specs.Plans.{account_of}
use Rattle.tca_accounts.specs.Metering.{CanAdd}
use Rattle.tca_accounts.proofs.Bills.{rest_later, in_time, has_room, had_next, skipped, none_in, none_more, none_same, none_few}
use Rattle.tca_accounts.proofs.bill.meter_all.Goals as goal

pub loop-report-init : goal.loop-report-init
loop-report-init c =
    let all : c.into_iter-report-iterator.result ≡ undisputed c.args.log.now = cc in
    record {
      period = c.new-period.ensures ∙ c.period.ensures.value;
      running = rw all c.requires;
      rises = rw all (search rules);
      unassigned = rw all (omega arith);
    }

pub add-requires-clause-order : goal.add-requires-clause-order
add-requires-clause-order c =
    let l = c.loop-report in
    let m = rw c.in-Some.ensures.steps at l.invariant.running in
    let old = c.index_mut-account.result.now in
    let inside : c.in-Some-account_of.n < length c.args.plan.now.accounts = c.in-Some-account_of.ensures.below in
    let early = in_time c.args.plan.now (undisputed c.args.log.now) c.in-Some.report.now c.next.new.self l.accounts.items m c.in-Some-account_of.n old inside in
    omega (arith, early, ap (λ r. r.metered.time) c.index_mut-account.ensures.value)

pub add-requires-clause-few : goal.add-requires-clause-few
add-requires-clause-few c =
    let l = c.loop-report in
    let m = rw c.in-Some.ensures.steps at l.invariant.running in
    let old = c.index_mut-account.result.now in
    let owner : account_of c.args.plan.now c.in-Some.report.now ≡ Some c.in-Some-account_of.n = sym c.account_of.ensures.account ∙ c.in-Some-account_of.is in
    let inside : c.in-Some-account_of.n < length c.args.plan.now.accounts = c.in-Some-account_of.ensures.below in
    let room = has_room c.args.plan.now (undisputed c.args.log.now) c.in-Some.report.now c.next.new.self l.accounts.items m c.in-Some-account_of.n old owner inside (omega arith) in
    subst (λ r. CanAdd r.metered.total r.current) (sym c.index_mut-account.ensures.value) room

pub loop-report-preserved : goal.loop-report-preserved
loop-report-preserved c =
    let l = c.loop-report in
    let x = c.in-Some.report.now in
    let m = rw c.in-Some.ensures.steps at l.invariant.running in
    let later = rest_later x c.next.new.self (rw c.in-Some.ensures.steps at l.invariant.rises) in
    let owner : account_of c.args.plan.now x ≡ Some c.in-Some-account_of.n = sym c.account_of.ensures.account ∙ c.in-Some-account_of.is in
    let inside : c.in-Some-account_of.n < length c.args.plan.now.accounts = c.in-Some-account_of.ensures.below in
    let old = c.index_mut-account.result.now in
    let added = rw (l.invariant.period, c.index_mut-account.ensures.value) at c.in_ok-add.ensures.running in
    record {
      period = c.add.ensures.period ∙ l.invariant.period;
      running = had_next c.args.plan.now (undisputed c.args.log.now) x c.next.new.self l.accounts.items m c.in-Some-account_of.n old c.add.new.self owner inside added c.in_ok-add.ensures.time later.0;
      rises = later.1;
      unassigned = omega (arith, none_same c.args.plan.now x c.next.new.self c.in-Some-account_of.n owner, ap (none_in c.args.plan.now) c.in-Some.ensures.steps, l.invariant.unassigned);
    }

pub loop-report-preserved-in_default : goal.loop-report-preserved-in_default
loop-report-preserved-in_default c =
    let l = c.loop-report in
    let x = c.in-Some.report.now in
    let m = rw c.in-Some.ensures.steps at l.invariant.running in
    let later = rest_later x c.next.new.self (rw c.in-Some.ensures.steps at l.invariant.rises) in
    let none : account_of c.args.plan.now x ≡ None = sym c.account_of.ensures.account ∙ c.in_default.is in
    record {
      period = l.invariant.period;
      running = skipped c.args.plan.now (undisputed c.args.log.now) x c.next.new.self l.accounts.items m none;
      rises = later.1;
      unassigned = omega (arith, none_more c.args.plan.now x c.next.new.self none, ap (none_in c.args.plan.now) c.in-Some.ensures.steps, l.invariant.unassigned);
    }

pub overflow_add-unassigned : goal.overflow_add-unassigned
overflow_add-unassigned c =
    let x = c.in-Some.report.now in
    let none : account_of c.args.plan.now x ≡ None = sym c.account_of.ensures.account ∙ c.in_default.is in
    let few = none_few c.args.plan.now (undisputed c.args.log.now) in
    omega (arith, none_more c.args.plan.now x c.next.new.self none, ap (none_in c.args.plan.now) c.in-Some.ensures.steps, c.loop-report.invariant.unassigned, few)

pub returns-clause-unassigned : goal.returns-clause-unassigned
returns-clause-unassigned c = omega (arith, ap (none_in c.args.plan.now) c.in-None.ensures.steps.0, c.loop-report.invariant.unassigned)

pub returns-in_err-add-clause-unassigned : goal.returns-in_err-add-clause-unassigned
returns-in_err-add-clause-unassigned c = grind (arith, common_steps)

pub returns-in_err-add-clause-running : goal.returns-in_err-add-clause-running
returns-in_err-add-clause-running c = grind (arith, common_steps)

pub returns-clause-running : goal.returns-clause-running
returns-clause-running c = grind (arith, common_steps)
