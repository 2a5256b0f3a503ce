use Rattle.tcatool.proofs.Pairing.{usages_are}
use Rattle.tcatool.proofs.pairs.usages_of.Goals as goal

pub returns : goal.returns
returns c = usages_are c.args.log.now c.count_reports.ensures.rises c.add_settled.new.usages.items c.add_settled.ensures
