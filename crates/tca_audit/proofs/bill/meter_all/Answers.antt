use Rattle.std.proofs.Common.{◌≡◌, ◌<◌, ◌+◌, None, Some, drop, length, true, false, sym, ap, ◌∙◌, subst, arith}
use Rattle.std.proofs.lemmas.List.{drop_all}
use Rattle.tca_join.specs.Sets.{has}
use Rattle.tca_report.specs.report.Identities.{identity_cmp, identity_of}
use Rattle.tca_log.specs.Disputes.{settled_of, undisputed}
use Rattle.tca_log.proofs.Contents.{disputed_rises}
use Rattle.tca_log.proofs.Undisputed.{settled_are, settled_none, undisputed_few, undisputed_rises}
use Rattle.tca_accounts.specs.Plans.{account_of}
use Rattle.tca_accounts.specs.Metering.{CanAdd}
use Rattle.tca_accounts.proofs.Bills.{none_few, none_more, none_same, rest_later}
use Rattle.tca_audit.proofs.Bills.{had_next, has_room, in_time, next_kept, next_skipped, skipped}
use Rattle.tca_audit.proofs.bill.meter_all.Goals as goal

pub loop-report-init : goal.loop-report-init
loop-report-init c =
    let all = settled_are c.args.reports.now c.args.disputes.now c.requires.disputes in
    rw all (record {
      metering = c.requires.metering;
      rises = undisputed_rises c.args.reports.now c.requires.rises;
      unassigned = omega arith;
    })

pub is_among-requires : goal.is_among-requires
is_among-requires c = rw c.requires.disputes (disputed_rises c.args.reports.now)

pub loop-report-preserved-then-is_among : goal.loop-report-preserved-then-is_among
loop-report-preserved-then-is_among c =
    let l = c.loop-report in
    let x = c.report-item.result in
    let there : has identity_cmp c.args.disputes.now (identity_of x) ≡ true = sym (rw c.identity.ensures at c.if-is_among.ensures) in
    let next = next_skipped c.args.disputes.now c.args.reports.now l.report-index x c.loop-report-test.true c.report-item.is there in
    record {
      metering = rw next at l.invariant.metering;
      rises = rw next at l.invariant.rises;
      unassigned = rw next at l.invariant.unassigned;
    }

pub overflow_add-unassigned : goal.overflow_add-unassigned
overflow_add-unassigned c =
    let l = c.loop-report in
    let x = c.report-item.result in
    let rest = settled_of c.args.disputes.now (drop (l.report-index + 1) c.args.reports.now) in
    let apart : has identity_cmp c.args.disputes.now (identity_of x) ≡ false = sym (rw c.identity.ensures at c.if-is_among.ensures) in
    let next = next_kept c.args.disputes.now c.args.reports.now l.report-index x c.loop-report-test.true c.report-item.is apart in
    let none : account_of c.args.plan.now x ≡ None = sym c.account_of.ensures.account ∙ c.in_default.is in
    let few = none_few c.args.plan.now (undisputed c.args.reports.now) in
    let some = rw next at l.invariant.unassigned in
    omega (arith, none_more c.args.plan.now x rest none, some, few, undisputed_few c.args.reports.now, c.requires.few)

pub loop-report-preserved-in_default : goal.loop-report-preserved-in_default
loop-report-preserved-in_default c =
    let l = c.loop-report in
    let x = c.report-item.result in
    let rest = settled_of c.args.disputes.now (drop (l.report-index + 1) c.args.reports.now) in
    let apart : has identity_cmp c.args.disputes.now (identity_of x) ≡ false = sym (rw c.identity.ensures at c.if-is_among.ensures) in
    let next = next_kept c.args.disputes.now c.args.reports.now l.report-index x c.loop-report-test.true c.report-item.is apart in
    let none : account_of c.args.plan.now x ≡ None = sym c.account_of.ensures.account ∙ c.in_default.is in
    let m = rw next at l.invariant.metering in
    let later = rest_later x rest (rw next at l.invariant.rises) in
    let some = rw next at l.invariant.unassigned in
    record {
      metering = skipped c.args.plan.now (undisputed c.args.reports.now) x rest l.accounts.items m none;
      rises = later.1;
      unassigned = omega (arith, none_more c.args.plan.now x rest none, some);
    }

pub add-requires-clause-order : goal.add-requires-clause-order
add-requires-clause-order c =
    let l = c.loop-report in
    let x = c.report-item.result in
    let rest = settled_of c.args.disputes.now (drop (l.report-index + 1) c.args.reports.now) in
    let apart : has identity_cmp c.args.disputes.now (identity_of x) ≡ false = sym (rw c.identity.ensures at c.if-is_among.ensures) in
    let next = next_kept c.args.disputes.now c.args.reports.now l.report-index x c.loop-report-test.true c.report-item.is apart in
    let m = rw next at l.invariant.metering in
    let old = c.index_mut-account.result.now in
    let inside : c.in-Some.n < length c.args.plan.now.accounts = c.in-Some.ensures.below in
    let early = in_time c.args.plan.now (undisputed c.args.reports.now) x rest l.accounts.items m c.in-Some.n old inside in
    omega (arith, early, ap (λ a. a.time) c.index_mut-account.ensures.value)

pub add-requires-clause-few : goal.add-requires-clause-few
add-requires-clause-few c =
    let l = c.loop-report in
    let x = c.report-item.result in
    let rest = settled_of c.args.disputes.now (drop (l.report-index + 1) c.args.reports.now) in
    let apart : has identity_cmp c.args.disputes.now (identity_of x) ≡ false = sym (rw c.identity.ensures at c.if-is_among.ensures) in
    let next = next_kept c.args.disputes.now c.args.reports.now l.report-index x c.loop-report-test.true c.report-item.is apart in
    let m = rw next at l.invariant.metering in
    let old = c.index_mut-account.result.now in
    let owner : account_of c.args.plan.now x ≡ Some c.in-Some.n = sym c.account_of.ensures.account ∙ c.in-Some.is in
    let inside : c.in-Some.n < length c.args.plan.now.accounts = c.in-Some.ensures.below in
    let room = has_room c.args.plan.now (undisputed c.args.reports.now) x rest l.accounts.items m c.in-Some.n old owner inside (omega (arith, undisputed_few c.args.reports.now, c.requires.few)) in
    subst (λ a. CanAdd a.total a.current) (sym c.index_mut-account.ensures.value) room

pub loop-report-preserved : goal.loop-report-preserved
loop-report-preserved c =
    let l = c.loop-report in
    let x = c.report-item.result in
    let rest = settled_of c.args.disputes.now (drop (l.report-index + 1) c.args.reports.now) in
    let apart : has identity_cmp c.args.disputes.now (identity_of x) ≡ false = sym (rw c.identity.ensures at c.if-is_among.ensures) in
    let next = next_kept c.args.disputes.now c.args.reports.now l.report-index x c.loop-report-test.true c.report-item.is apart in
    let m = rw next at l.invariant.metering in
    let later = rest_later x rest (rw next at l.invariant.rises) in
    let some = rw next at l.invariant.unassigned in
    let owner : account_of c.args.plan.now x ≡ Some c.in-Some.n = sym c.account_of.ensures.account ∙ c.in-Some.is in
    let inside : c.in-Some.n < length c.args.plan.now.accounts = c.in-Some.ensures.below in
    let old = c.index_mut-account.result.now in
    let added = rw (c.period-period.ensures.value, c.index_mut-account.ensures.value) at c.in_ok-add.ensures.metering in
    record {
      metering = had_next c.args.plan.now (undisputed c.args.reports.now) x rest l.accounts.items m c.in-Some.n old c.add.new.self owner inside added c.in_ok-add.ensures.time later.0;
      rises = later.1;
      unassigned = omega (arith, none_same c.args.plan.now x rest c.in-Some.n owner, some);
    }

pub returns-clause-unassigned : goal.returns-clause-unassigned
returns-clause-unassigned c =
    let l = c.loop-report in
    let none = ap (settled_of c.args.disputes.now) (drop_all l.report-index c.args.reports.now (omega (arith, c.loop-report-test.false))) ∙ settled_none c.args.disputes.now in
    let some = rw none at l.invariant.unassigned in
    omega (arith, some)

pub returns-clause-metering : goal.returns-clause-metering
returns-clause-metering c =
    let l = c.loop-report in
    let none = ap (settled_of c.args.disputes.now) (drop_all l.report-index c.args.reports.now (omega (arith, c.loop-report-test.false))) ∙ settled_none c.args.disputes.now in
    rw none at l.invariant.metering
