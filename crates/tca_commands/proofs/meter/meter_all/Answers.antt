use Rattle.std.proofs.lemmas.Grind.{common_steps}
use Rattle.std.proofs.Common.{◌≡◌, arith}
use Rattle.tca_meters.specs.declared.colour.Colour.TheVariants.{Green}
use Rattle.tca_meters.specs.Packets.{colours}
use Rattle.tca_accounts.specs.Sums.{packet_of}
use Rattle.tca_commands.proofs.Metering.{metering_begun, metering_more, metering_done, room}
use Rattle.tca_commands.proofs.meter.meter_all.Goals as goal

pub loop-report-init : goal.loop-report-init
loop-report-init g c =
    let all : c.into_iter-report-iterator.result ≡ c.args.reports = cc in
    rw (all, c.no_reports-metered.ensures) (metering_begun (g.M.Meter.rule c.args.meter.now) c.args.reports c.requires.rises c.requires.few)

pub meter_next-requires-clause-few : goal.meter_next-requires-clause-few
meter_next-requires-clause-few g c =
    let rule = g.M.Meter.rule c.args.meter.now in
    let m = rw c.in-Some.ensures.steps at c.loop-report.invariant in
    room rule (colours rule (packet_of Green) c.args.reports) c.loop-report.metered c.in-Some.report.now c.next.new.self m

pub loop-report-preserved : goal.loop-report-preserved
loop-report-preserved g c =
    let rule = g.M.Meter.rule c.args.meter.now in
    let m = rw c.in-Some.ensures.steps at c.loop-report.invariant in
    rw c.meter_next.ensures.after (metering_more rule (colours rule (packet_of Green) c.args.reports) c.loop-report.metered c.in-Some.report.now c.next.new.self m)

pub returns : goal.returns
returns g c =
    let rule = g.M.Meter.rule c.args.meter.now in
    metering_done rule (colours rule (packet_of Green) c.args.reports) c.loop-report.metered (rw c.in-None.ensures.steps.0 at c.loop-report.invariant)

pub meter_next-requires-clause-order : goal.meter_next-requires-clause-order
meter_next-requires-clause-order g c = grind (arith, common_steps)
