use Rattle.std.proofs.Common.{rules, ◌≡◌, false, Some, arith}
use Rattle.std.specs.Ordering.{is_le, is_some_and}
use Rattle.tca_report.specs.report.Identities.{identity_cmp, identity_of}
use Rattle.tca_audit.proofs.Repeats.{rises_at_first, rises_by_one}
use Rattle.tca_audit.proofs.disputes.identities_ascend.Goals as goal

pub loop-at-init : goal.loop-at-init
loop-at-init c = rises_at_first c.args.reports.now

pub loop-at-preserved : goal.loop-at-preserved
loop-at-preserved c =
    let before = c.index-reports-at-in-loop-at.result in
    let this = c.index-reports-at.result in
    let not_at_most : is_some_and is_le (Some (identity_cmp (identity_of this) (identity_of before))) ≡ false = search rules in
    rises_by_one c.args.reports.now c.loop-at.at before this (omega arith) (omega arith) c.index-reports-at-in-loop-at.is c.index-reports-at.is not_at_most c.loop-at.invariant
