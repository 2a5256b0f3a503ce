use Rattle.std.proofs.Common.{rules}
use Rattle.tca_commands.proofs.combine.run_combine.Goals as goal

pub returns-in_err-reports-clause-refused : goal.returns-in_err-reports-clause-refused
returns-in_err-reports-clause-refused g c = search rules

pub returns-in_err-write_export-clause-refused : goal.returns-in_err-write_export-clause-refused
returns-in_err-write_export-clause-refused g c = search rules

pub returns-in_err-put_text-clause-refused : goal.returns-in_err-put_text-clause-refused
returns-in_err-put_text-clause-refused g c = search rules

pub returns-clause-done : goal.returns-clause-done
returns-clause-done g c = search rules
