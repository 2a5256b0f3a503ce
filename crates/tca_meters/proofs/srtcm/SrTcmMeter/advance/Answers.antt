use Rattle.std.proofs.Common.{rules}
use Rattle.tca_meters.proofs.NoTime.{none_spilling}
use Rattle.tca_meters.proofs.srtcm.SrTcmMeter.advance.Goals as goal

pub returns-then-from-to : goal.returns-then-from-to
returns-then-from-to c = none_spilling c.args.self.now.cir c.args.from c.args.to c.args.state c.if-from-to.true

pub returns : goal.returns
returns c = search rules
