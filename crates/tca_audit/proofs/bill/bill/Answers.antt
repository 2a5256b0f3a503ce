use Rattle.std.proofs.Common.{◌≡◌, ◌∙◌, length, ap}
use Rattle.tca_log.specs.Disputes.{disputed}
use Rattle.tca_audit.proofs.Bills.{all_rise, tallies_are}
use Rattle.tca_audit.proofs.bill.bill.Goals as goal

pub finish-requires : goal.finish-requires
finish-requires c = all_rise c.args.plan.now c.args.reports.now c.meter_all.new.accounts.items c.in_ok-unassigned.ensures.metering

pub returns : goal.returns
returns c =
    let tallies = c.in_ok-finish.ensures ∙ tallies_are c.args.plan.now c.args.reports.now c.meter_all.new.accounts.items c.in_ok-unassigned.ensures.metering in
    let disputes : c.len.result ≡ length (disputed c.args.reports.now) = c.len.ensures ∙ c.in_ok-disputes.disputes.ok.0 ∙ ap length c.in_ok-disputes.ensures.disputed in
    λ i. record { reports = length c.args.reports.now; disputed = disputes i; unassigned = c.in_ok-unassigned.ensures.unassigned i; accounts = tallies i }
