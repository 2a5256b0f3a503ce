use Rattle.std.proofs.Common.{◌∙◌}
use Rattle.tca_audit.proofs.Repeats.{is_found}
use Rattle.tca_audit.proofs.disputes.is_among.Goals as goal

pub returns : goal.returns
returns c = c.is_ok.ensures.value ∙ is_found c.args.identities.now c.args.identity c.binary_search.result c.requires c.binary_search.ensures.bound c.binary_search.ensures.position
