use Rattle.std.proofs.Common.{arith}
use Rattle.std.proofs.lemmas.Grind.{common_steps}
use Rattle.tca_report.proofs.input.extraction.read_section.Goals as goal

pub returns-then-value-lt4 : goal.returns-then-value-lt4
returns-then-value-lt4 c = grind (arith, common_steps)

pub returns-then-value-eq4 : goal.returns-then-value-eq4
returns-then-value-eq4 c = grind (arith, common_steps)

pub returns-then-value-ge6 : goal.returns-then-value-ge6
returns-then-value-ge6 c = grind (arith, common_steps)

pub returns : goal.returns
returns c = grind (arith, common_steps)
