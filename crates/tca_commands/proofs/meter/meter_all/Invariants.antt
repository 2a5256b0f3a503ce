use Rattle.tca_meters.specs.declared.colour.Colour.TheVariants.{Green}
use Rattle.tca_meters.specs.Packets.{colours}
use Rattle.tca_accounts.specs.Sums.{packet_of}
use Rattle.tca_commands.proofs.Metering.{IsMetering}
use Rattle.tca_commands.proofs.meter.meter_all.Given as goal

abbrev pub invariant-loop-report : goal.invariant-loop-report
invariant-loop-report g l =
    let rule = g.M.Meter.rule l.meter in
    IsMetering rule (colours rule (packet_of Green) l.fn.reports) l.report-iterator l.metered
