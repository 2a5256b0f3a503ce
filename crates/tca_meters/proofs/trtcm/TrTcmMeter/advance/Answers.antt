use Rattle.tca_meters.proofs.NoTime.{none_apart}
use Rattle.tca_meters.proofs.trtcm.TrTcmMeter.advance.Goals as goal

pub returns-then-from-to : goal.returns-then-from-to
returns-then-from-to c = none_apart c.args.self.now.cir c.args.self.now.pir c.args.from c.args.to c.args.state c.if-from-to.true
