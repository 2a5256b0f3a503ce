use Rattle.std.proofs.Common.{rules}
use Rattle.tca_split.proofs.survey.Survey.add_domain.Goals as goal

pub returns-clause-domains : goal.returns-clause-domains
returns-clause-domains c = search rules

pub returns-clause-known : goal.returns-clause-known
returns-clause-known c = search rules
