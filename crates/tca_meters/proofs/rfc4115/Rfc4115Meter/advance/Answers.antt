use Rattle.tca_meters.proofs.NoTime.{none_apart}
use Rattle.tca_meters.proofs.rfc4115.Rfc4115Meter.advance.Goals as goal

pub returns-then-from-to : goal.returns-then-from-to
returns-then-from-to c = none_apart c.args.self.now.cir c.args.self.now.eir c.args.from c.args.to c.args.state c.if-from-to.true
