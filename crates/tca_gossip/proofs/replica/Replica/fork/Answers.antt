use Rattle.std.proofs.Common.{◌∙◌}
use Rattle.tca_join.specs.Chains.{differ_at}
use Rattle.tca_join.specs.Maps.{clash_key}
use Rattle.tca_report.proofs.lemmas.report.Order.{same_report_is}
use Rattle.tca_gossip.proofs.replica.Replica.fork.Goals as goal

pub returns : goal.returns
returns c = rw (← c.self.view_is, ← c.other.view_is) (c.fork.ensures ∙ (λ i. clash_key (differ_at (λ x y. same_report_is x y i)) c.self.inside.contents.replica.chains c.other.inside.contents.replica.chains))
