use Rattle.std.proofs.Common.{rules}
use Rattle.tca_program.proofs.line_fault.LineFault.nothing_asked.Goals as goal

pub returns-clause-wrong : goal.returns-clause-wrong
returns-clause-wrong c = search rules
