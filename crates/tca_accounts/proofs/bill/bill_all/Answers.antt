use Rattle.std.proofs.Common.{◌∙◌}
use Rattle.tca_log.specs.Disputes.{undisputed}
use Rattle.tca_accounts.proofs.Bills.{all_rise, tallies_are}
use Rattle.tca_accounts.proofs.bill.bill_all.Goals as goal

pub meter_all-requires : goal.meter_all-requires
meter_all-requires c = c.in_ok-accounts.ensures (undisputed c.args.log.now)

pub finish-requires : goal.finish-requires
finish-requires c = all_rise c.args.plan.now c.args.log.now c.meter_all.new.accounts.items c.in_ok-unassigned.ensures.running

pub returns : goal.returns
returns c =
    let tallies = c.in_ok-finish.ensures ∙ tallies_are c.args.plan.now c.args.log.now c.meter_all.new.accounts.items c.in_ok-unassigned.ensures.running in
    λ i. record { reports = c.len.ensures.length i; disputed = c.disputed.ensures i; unassigned = c.in_ok-unassigned.ensures.unassigned i; accounts = tallies i }
