use Rattle.std.proofs.Common.{rules}
use Rattle.tca_program.proofs.line_fault.LineFault.of.Goals as goal

pub returns-then-eq-clause-memory : goal.returns-then-eq-clause-memory
returns-then-eq-clause-memory c = search rules

pub returns-in-Ok-clause-help : goal.returns-in-Ok-clause-help
returns-in-Ok-clause-help c = search rules

pub returns-in-Ok-2-clause-wrong : goal.returns-in-Ok-2-clause-wrong
returns-in-Ok-2-clause-wrong c = search rules
