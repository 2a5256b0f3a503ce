use Rattle.std.proofs.Common.{arith}
use Rattle.std.proofs.lemmas.Grind.{common_steps}
use Rattle.tca_report.proofs.export.reading.read_whole.Goals as goal

pub returns-in_err-format-clause-exact : goal.returns-in_err-format-clause-exact
returns-in_err-format-clause-exact c = grind (arith, common_steps)

pub returns-in_err-format-clause-memory : goal.returns-in_err-format-clause-memory
returns-in_err-format-clause-memory c = grind (arith, common_steps)

pub returns-in_default-clause-exact : goal.returns-in_default-clause-exact
returns-in_default-clause-exact c = grind (arith, common_steps)

pub returns-in_default-clause-memory : goal.returns-in_default-clause-memory
returns-in_default-clause-memory c = grind (arith, common_steps)

pub returns-in_err-read_records-clause-exact : goal.returns-in_err-read_records-clause-exact
returns-in_err-read_records-clause-exact c = grind (arith, common_steps)

pub returns-in_err-read_records-clause-memory : goal.returns-in_err-read_records-clause-memory
returns-in_err-read_records-clause-memory c = grind (arith, common_steps)

pub returns-clause-exact : goal.returns-clause-exact
returns-clause-exact c = grind (arith, common_steps)

pub returns-clause-memory : goal.returns-clause-memory
returns-clause-memory c = grind (arith, common_steps)
