use Rattle.std.proofs.Common.{◌∙◌}
use Rattle.tca_report.specs.contracts.report.ReportPartialEq.TheImpl as report_eq
use Rattle.tca_gossip.proofs.Clashing.{named}
use Rattle.tca_gossip.proofs.contents.Contents.fork.Goals as goal

pub returns : goal.returns
returns c = rw (← c.self.view_is, ← c.other.view_is) (c.origin_of.ensures ∙ named report_eq.ghosts.eq c.self.inside.chains c.other.inside.chains c.self.invariant.rises c.refusal.result c.refusal.ensures)
