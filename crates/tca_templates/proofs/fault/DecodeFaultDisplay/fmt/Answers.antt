use Rattle.std.proofs.Common.{arith}
use Rattle.std.proofs.lemmas.Grind.{common_steps}
use Rattle.tca_templates.proofs.fault.DecodeFaultDisplay.fmt.Goals as goal

pub returns-in-Scope-__pattern-clause-writes : goal.returns-in-Scope-__pattern-clause-writes
returns-in-Scope-__pattern-clause-writes g c = grind (arith, common_steps)

pub returns-in-Scope-__pattern-clause-styled : goal.returns-in-Scope-__pattern-clause-styled
returns-in-Scope-__pattern-clause-styled g c = grind (arith, common_steps)

pub returns-in-TooMany-clause-writes : goal.returns-in-TooMany-clause-writes
returns-in-TooMany-clause-writes g c = grind (arith, common_steps)

pub returns-in-TooMany-clause-styled : goal.returns-in-TooMany-clause-styled
returns-in-TooMany-clause-styled g c = grind (arith, common_steps)

pub returns-in-Memory-clause-writes : goal.returns-in-Memory-clause-writes
returns-in-Memory-clause-writes g c = grind (arith, common_steps)

pub returns-in-Memory-clause-styled : goal.returns-in-Memory-clause-styled
returns-in-Memory-clause-styled g c = grind (arith, common_steps)
